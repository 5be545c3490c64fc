-- What a window's `data` and `xdata` give and take (acme(4)).
use Rattle.std.specs.Prelude.{◌≡◌, ℕ, ◌+◌, ◌-◌, ◌==◌, ◌&&◌, nat_le, List, [], ◌∷◌, length, take, slice_range, Result}
use Rattle.std.specs.Prelude.{Ok, Err, if◌then◌else◌}
use Rattle.am_text.specs.declared.range.Range.{Range}
use Rattle.am_text.specs.Pieces.{Decoded, decode_part}
use Rattle.am_text.specs.Utf8.{rune_bytes, utf8}
use Rattle.edit_log.specs.declared.types.Edit.{Edit}
use Rattle.sam_address.specs.Value.{null_at}
use Rattle.win_text.specs.Bodies.{BodyState}
use Rattle.win_text.specs.Limits.{body_runes}
use Rattle.core_addresses.specs.declared.data.Given.{Given}
use Rattle.core_addresses.specs.declared.data.Taken.{Taken}
use Rattle.core_addresses.specs.declared.fault.RangeFault.{RangeFault}
use Rattle.core_addresses.specs.declared.fault.RangeFault.TheVariants.{PartialRune, TooLong, NoMemory}

-- ---- reads

-- how many of the first runes have all their bytes in so many
unfoldable pub runes_within : ℕ → List ℕ → ℕ
runes_within count [] = 0
runes_within count (c ∷ text) =
    if nat_le (length (rune_bytes c)) count then runes_within (count - length (rune_bytes c)) text + 1 else 0

-- whole runes of a text, as many as fit
abbrev pub whole_runes : ℕ → List ℕ → List ℕ
whole_runes count text = utf8 (take (runes_within count text) text)

-- the runes from the start of `addr` up to a place
abbrev pub from_addr : BodyState → ℕ → List ℕ
from_addr b end = slice_range b.text b.addr.q0 end

-- `data` goes on to the end of the text; `addr` then is null behind what was given
abbrev pub data_given : BodyState → ℕ → Given
data_given b count = record {
  bytes = whole_runes count (from_addr b (length b.text));
  addr = null_at (b.addr.q0 + runes_within count (from_addr b (length b.text)));
}

-- `xdata` stops at the end of `addr`, whose start then stands behind what was given
abbrev pub xdata_given : BodyState → ℕ → Given
xdata_given b count = record {
  bytes = whole_runes count (from_addr b b.addr.q1);
  addr = record { q0 = b.addr.q0 + runes_within count (from_addr b b.addr.q1); q1 = b.addr.q1 };
}

-- ---- writes, the same to both

-- the edit that puts a text in the place of a range; of a null range by an empty text it is none
abbrev pub replacement : Range → List ℕ → List Edit
replacement r text =
    if (r.q0 == r.q1) && (length text == 0) then [] else record { q0 = r.q0; q1 = r.q1; text = text } ∷ []

-- a body has at most 16,777,216 runes
abbrev pub fits : List ℕ → Range → List ℕ → Result Taken RangeFault → Result Taken RangeFault
fits body r text taken = if nat_le (length body - (r.q1 - r.q0) + length text) body_runes then taken else Err TooLong

-- what a write takes, where no byte of a rune is left over
abbrev pub is_whole : List ℕ → Result Taken RangeFault → Result Taken RangeFault
is_whole rest taken = if length rest == 0 then taken else Err PartialRune

-- the text takes the place of `addr`, which then is null behind it
abbrev pub takes : BodyState → List ℕ → Taken
takes b text = record { edits = replacement b.addr text; addr = null_at (b.addr.q0 + length text) }

-- what a write to `data` or `xdata` does
abbrev pub taken_of : BodyState → Decoded → Result Taken RangeFault
taken_of b written = is_whole written.rest (fits b.text b.addr written.text (Ok (takes b written.text)))

-- what a write does: its bytes end in no unfinished rune, and the body has room
abbrev pub data_taken : BodyState → List ℕ → Result Taken RangeFault
data_taken b bytes = taken_of b (decode_part bytes)

-- the fault that is answered is the one that is wanted; want of memory says nothing
abbrev pub Tells : {A : Type 0} → RangeFault → Result A RangeFault → Type 0
Tells NoMemory wanted = Unit {0}
Tells fault wanted = wanted ≡ Err fault
