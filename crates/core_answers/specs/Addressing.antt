-- What is read and written by a window's address: the files `addr`, `data` and `xdata`, after acme(4).
use Rattle.std.specs.Prelude.{ℕ, List, [], ◌∷◌, length, Option, Some, None, Result, Ok, Err}
use Rattle.am_text.specs.declared.range.Range.{Range}
use Rattle.ninep_types.specs.declared.message.RBody.TheVariants as r
use Rattle.core_addresses.specs.Data.{data_given, xdata_given, data_taken}
use Rattle.core_addresses.specs.Ranges.{range_text, address_range}
use Rattle.core_addresses.specs.declared.data.Given.{Given}
use Rattle.core_addresses.specs.declared.data.Taken.{Taken}
use Rattle.core_addresses.specs.declared.fault.RangeFault.{RangeFault}
use Rattle.core_addresses.specs.declared.fault.RangeFault.TheVariants as range
use Rattle.core_windows.specs.declared.change.Change.{Change}
use Rattle.core_windows.specs.declared.change.Change.TheVariants as change
use Rattle.core_windows.specs.declared.change.Setting.TheVariants as setting
use Rattle.core_windows.specs.Windows.{Window}
use Rattle.edit_log.specs.declared.types.Edit.{Edit}
use Rattle.core_fids.specs.declared.effect.Effect.TheVariants as effect
use Rattle.core_fids.specs.declared.effect.Reaction.{Reaction}
use Rattle.core_fids.specs.declared.refusal.Fault.{Fault}
use Rattle.core_fids.specs.declared.refusal.Fault.TheVariants as fault
use Rattle.core_fids.specs.declared.refusal.Refusal.{Refusal}
use Rattle.core_fids.specs.declared.refusal.Refusal.TheVariants as refusal
use Rattle.core_fids.specs.Plainly.{does}

-- the address becomes a range
abbrev pub sets_addr : ℕ → Range → List Change
sets_addr w range = change.Sets w (setting.Addr range) ∷ []

-- edits are made, and the address becomes a range
abbrev pub edits_with_addr : ℕ → List Edit → Range → List Change
edits_with_addr w edits range = change.Edits w edits ∷ change.Sets w (setting.Addr range) ∷ []

-- ---- reads

-- what a read of `addr` gives
abbrev pub addr_text : Option Window → List ℕ
addr_text None = []
addr_text (Some window) = range_text window.body.addr

-- what is given, and the address that is then
abbrev pub gives : ℕ → Given → Reaction
gives w given = does effect.Nothing (sets_addr w given.addr) (r.Read given.bytes)

-- a read that gives nothing
abbrev pub gives_nothing : Reaction
gives_nothing = does effect.Nothing [] (r.Read [])

-- what a read of `data` does
abbrev pub data_reaction : ℕ → ℕ → Option Window → Reaction
data_reaction w count None = gives_nothing
data_reaction w count (Some window) = gives w (data_given window.body count)

-- what a read of `xdata` does
abbrev pub xdata_reaction : ℕ → ℕ → Option Window → Reaction
xdata_reaction w count None = gives_nothing
xdata_reaction w count (Some window) = gives w (xdata_given window.body count)

-- ---- writes

-- Want of memory is the outcome of no definition.
abbrev pub range_refusal : RangeFault → Refusal
range_refusal range.BadAddress = refusal.BadAddress
range_refusal range.OutOfRange = refusal.AddressOutOfRange
range_refusal range.NoMatch = refusal.NoMatch
range_refusal range.OutOfOrder = refusal.AddressOutOfOrder
range_refusal range.PartialRune = refusal.PartialRune
range_refusal range.TooLong = refusal.TextTooLong
range_refusal range.NoMemory = refusal.BadAddress

-- the fault by which a message isn't done
abbrev pub fault_of : RangeFault → Fault
fault_of range.NoMemory = fault.NoMemory
fault_of f = fault.Refused (range_refusal f)

-- the address is set, or the refusal of a text that is none
abbrev pub addr_or_refusal : ℕ → ℕ → Result Range RangeFault → Result Reaction Refusal
addr_or_refusal w count (Ok range) = Ok (does effect.Nothing (sets_addr w range) (r.Write count))
addr_or_refusal w count (Err f) = Err (range_refusal f)

-- what a write to `addr` does
abbrev pub addr_reaction : ℕ → List ℕ → Option Window → Result Reaction Refusal
addr_reaction w bytes None = Err refusal.WindowDeleted
addr_reaction w bytes (Some window) = addr_or_refusal w (length bytes) (address_range window.body bytes)

-- the text takes the address's place, or the refusal of bytes that are none
abbrev pub data_or_refusal : ℕ → ℕ → Result Taken RangeFault → Result Reaction Refusal
data_or_refusal w count (Ok taken) = Ok (does effect.Nothing (edits_with_addr w taken.edits taken.addr) (r.Write count))
data_or_refusal w count (Err f) = Err (range_refusal f)

-- `data` and `xdata` are written alike
abbrev pub taking_reaction : ℕ → List ℕ → Option Window → Result Reaction Refusal
taking_reaction w bytes None = Err refusal.WindowDeleted
taking_reaction w bytes (Some window) = data_or_refusal w (length bytes) (data_taken window.body bytes)
