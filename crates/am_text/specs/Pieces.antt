-- Texts whose bytes come in pieces.
use Rattle.std.specs.Prelude.{◌≡◌, ◌↔◌, ◌<◌, ◌≤◌, ℕ, Bool, true, false, ◌&&◌, List, [], ◌∷◌, ◌++◌, length}
use Rattle.std.specs.Prelude.{if◌then◌else◌}
use Rattle.std.specs.Char.{IsScalar}
use Rattle.std.specs.Int.{is_in_range}
use Rattle.std.specs.List.{AllByRecursion}
use Rattle.std.specs.Str.Lossy.{second_byte_min, second_byte_max}
use Rattle.am_text.specs.Utf8.{is_later, front_width, decode, utf8}

-- The bytes are a proper front of a well-formed sequence (Unicode, table 3-7): with more bytes it may be whole.
unfoldable pub is_begun : List ℕ → Bool
is_begun [] = false
is_begun (a ∷ []) = is_in_range 0xC2 0xF4 a
is_begun (a ∷ b ∷ []) = is_in_range 0xE0 0xF4 a && is_in_range (second_byte_min a) (second_byte_max a) b
is_begun (a ∷ b ∷ c ∷ []) = is_in_range 0xF0 0xF4 a && is_in_range (second_byte_min a) (second_byte_max a) b
    && is_later c
is_begun (a ∷ b ∷ c ∷ d ∷ bs) = false

-- the longest end of the bytes that is begun; no bytes where there is none
unfoldable pub rest_of : List ℕ → List ℕ
rest_of [] = []
rest_of (b ∷ bs) = if is_begun (b ∷ bs) then b ∷ bs else rest_of bs

-- the bytes before that end
unfoldable pub whole_of : List ℕ → List ℕ
whole_of [] = []
whole_of (b ∷ bs) = if is_begun (b ∷ bs) then [] else b ∷ whole_of bs

-- what a piece gives: a text, and the bytes that are left over and stand before the next piece
pub record Decoded : Type 0 where
  pub text : List ℕ
  pub rest : List ℕ

abbrev pub decode_part : List ℕ → Decoded
decode_part bs = record { text = decode (whole_of bs); rest = rest_of bs }

-- one whole sequence of two bytes or more
abbrev pub IsSequence : List ℕ → Type 0
IsSequence bs = (1 < length bs) × (front_width bs ≡ length bs)

-- ---- laws

-- What is begun is exactly what more bytes end to a sequence.
abbrev pub BegunIsFront : Type 0
BegunIsFront = (bs : List ℕ) → (is_begun bs ≡ true) ↔ ((0 < length bs)
    × ((more : List ℕ) × ((0 < length more) × IsSequence (bs ++ more))))

-- Decoding piece by piece is decoding of the whole: the text of two pieces, and what is left over of them.
abbrev pub JoinsTexts : Type 0
JoinsTexts = (a b : List ℕ) → (decode_part (a ++ b)).text ≡ (decode_part a).text
    ++ (decode_part ((decode_part a).rest ++ b)).text

abbrev pub JoinsRests : Type 0
JoinsRests = (a b : List ℕ) → (decode_part (a ++ b)).rest ≡ (decode_part ((decode_part a).rest ++ b)).rest

-- Where no piece follows, the rest decoded whole ends the text.
abbrev pub EndsWhole : Type 0
EndsWhole = (bs : List ℕ) → decode bs ≡ (decode_part bs).text ++ decode (decode_part bs).rest

-- Of the bytes of a text nothing is left over.
abbrev pub LeavesNone : Type 0
LeavesNone = (text : List ℕ) → AllByRecursion IsScalar text → decode_part (utf8 text)
    ≡ record { text = text; rest = [] }

-- At most three bytes are left over.
abbrev pub LeavesFew : Type 0
LeavesFew = (bs : List ℕ) → length (decode_part bs).rest ≤ 3
