-- How many bytes stand before and behind places of a text, noted for each stride of runes.
use Rattle.std.specs.Prelude.{◌≡◌, ◌≤◌, ◌<◌, ℕ, zero, suc, ◌+◌, ◌-◌, ◌*◌, ◌^◌, Bool, true, List, length, take, drop}
use Rattle.std.specs.Prelude.{slice_index}
use Rattle.am_text.specs.Utf8.{utf8}
use Rattle.am_text.specs.declared.range.Range.{Range}
use Rattle.rune_gap.specs.Gap.{around, IsGapIn}

-- the runes from one mark to the next
abbrev pub stride : ℕ
stride = 256

-- how many bytes a text takes in UTF-8
abbrev pub size : List ℕ → ℕ
size text = length (utf8 text)

-- what is noted after so many strides, and 0 before the first
abbrev pub noted : List ℕ → ℕ → ℕ
noted marks zero = 0
noted marks (suc k) = slice_index marks k

-- there is a mark for each stride of a buffer
abbrev pub HasRoom : List ℕ → List ℕ → Type 0
HasRoom marks buffer = length buffer < (length marks + 1) * stride

-- each stride of the first n runes is noted: the bytes from the front to its end
abbrev pub IsMarked : List ℕ → List ℕ → ℕ → Type 0
IsMarked marks text n = (k : ℕ) → k * stride ≤ n → noted marks k ≡ size (take (k * stride) text)

-- each stride of the last n runes is noted, counted from the end: the bytes from its beginning to the end
abbrev pub IsMarkedBack : List ℕ → List ℕ → ℕ → Type 0
IsMarkedBack marks text n = (k : ℕ) → k * stride ≤ n → noted marks k ≡ size (drop (length text - k * stride) text)

-- where it is noted that a text is plain, each of its runes takes one byte
abbrev pub IsPlain : Bool → List ℕ → Type 0
IsPlain plain text = plain ≡ true → size text ≡ length text

-- a text with a gap, whose strides before the gap and behind it are noted
pub record IsKept (gap : Range) (buffer before behind : List ℕ) (plain : Bool) : Type 0 where
  pub placed : IsGapIn gap buffer
  pub small : length buffer < 2 ^ 61
  pub before_room : HasRoom before buffer
  pub behind_room : HasRoom behind buffer
  pub before_gap : IsMarked before (around gap buffer) gap.q0
  pub behind_gap : IsMarkedBack behind (around gap buffer) (length buffer - gap.q1)
  pub is_plain : IsPlain plain (around gap buffer)

-- such a text, of whose gap so much is given out as room
pub record IsRoomy (gap : Range) (spare : ℕ) (buffer before behind : List ℕ) (plain : Bool) : Type 0 where
  pub kept : IsKept gap buffer before behind plain
  pub given : spare ≤ gap.q1 - gap.q0
