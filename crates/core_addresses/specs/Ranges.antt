-- The range that a window's `addr` names (acme(4)).
use Rattle.std.specs.Prelude.{ℕ, ◌-◌, ◌==◌, nat_eq, List, [], ◌∷◌, ◌++◌, length, take, codes, Option, Some, None}
use Rattle.std.specs.Prelude.{Result, Ok, Err, if◌then◌else◌}
use Rattle.std.specs.Fmt.{decimal}
use Rattle.std.specs.List.{ends_with}
use Rattle.am_text.specs.declared.range.Range.{Range}
use Rattle.am_text.specs.Utf8.{decode}
use Rattle.addr_syntax.specs.Tree.{Tree}
use Rattle.addr_syntax.specs.Addresses.{small_address}
use Rattle.sam_address.specs.Value.{Outcome, value}
use Rattle.sam_address.specs.declared.fault.AddrFault.{AddrFault}
use Rattle.sam_address.specs.declared.fault.AddrFault.TheVariants as fault
use Rattle.win_text.specs.Bodies.{BodyState}
use Rattle.am_text.specs.Ascii.{newline}
use Rattle.core_addresses.specs.declared.fault.RangeFault.{RangeFault}
use Rattle.core_addresses.specs.declared.fault.RangeFault.TheVariants.{BadAddress, OutOfRange, NoMatch, OutOfOrder}
use Rattle.core_addresses.specs.declared.fault.RangeFault.TheVariants.{NoMemory}

-- ---- what `addr` shows: `#m,#n`, or `#m` where the range is null

-- `#N`
abbrev pub rune_number : ℕ → List ℕ
rune_number n = codes "#" ++ decimal n

-- the text of a range
abbrev pub range_text : Range → List ℕ
range_text r = if r.q0 == r.q1 then rune_number r.q0 else rune_number r.q0 ++ codes "," ++ rune_number r.q1

-- ---- what is written to it

-- one newline at the end is dropped
abbrev pub without_newline : List ℕ → List ℕ
without_newline text = if ends_with nat_eq text (newline ∷ []) then take (length text - 1) text else text

-- searches stay inside the limit; without one it is the whole text
abbrev pub whole_or : List ℕ → Option Range → Range
whole_or text None = record { q0 = 0; q1 = length text }
whole_or text (Some limit) = limit

-- the range in which addresses are read
abbrev pub bounds : BodyState → Range
bounds b = whole_or b.text b.limit

-- why an address gives no range
abbrev pub fault_of : AddrFault → RangeFault
fault_of fault.Range = OutOfRange
fault_of fault.NoMatch = NoMatch
fault_of fault.Order = OutOfOrder
fault_of fault.NoMemory = NoMemory

-- the range of an address, or why there is none
abbrev pub range_or_fault : Outcome → Result Range RangeFault
range_or_fault (Ok r) = Ok r
range_or_fault (Err f) = Err (fault_of f)

-- the value of an address, in which `.` is the present `addr`
abbrev pub address_value : BodyState → Option Tree → Result Range RangeFault
address_value b None = Err BadAddress
address_value b (Some a) = range_or_fault (value a b.text (bounds b) b.addr)

-- the range that is written
abbrev pub address_range : BodyState → List ℕ → Result Range RangeFault
address_range b bytes = address_value b (small_address (without_newline (decode bytes)))
