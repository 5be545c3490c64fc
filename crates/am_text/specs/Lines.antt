-- Lines, and texts in one line.
use Rattle.std.specs.Prelude.{ℕ, ◌+◌, List, [], ◌∷◌, ◌==◌, if◌then◌else◌, slice_range}
use Rattle.std.specs.List.{onto_first}
use Rattle.am_text.specs.Ascii.{newline, space, backslash, letter_n}
use Rattle.am_text.specs.Utf8.{rune_bytes}
use Rattle.am_text.specs.declared.range.Range.{Range}

-- the spans of the lines, where the bytes are those at a place, and their first line began at from
abbrev pub spans_after : ℕ → ℕ → List ℕ → List Range
spans_after from at [] = if from == at then [] else record { q0 = from; q1 = at } ∷ []
spans_after from at (b ∷ bs) = if b == newline then record { q0 = from; q1 = at } ∷ spans_after (at + 1) (at + 1)
    bs else spans_after from (at + 1) bs

abbrev pub spans_of : List ℕ → List Range
spans_of bs = spans_after 0 0 bs

-- what a span holds of the bytes
abbrev pub line_at : List ℕ → Range → List ℕ
line_at bytes r = slice_range bytes r.q0 r.q1

-- the bytes up to the first newline, and those after it
abbrev pub first_line : List ℕ → List ℕ
first_line [] = []
first_line (b ∷ bs) = if b == newline then [] else b ∷ first_line bs

abbrev pub after_line : List ℕ → List ℕ
after_line [] = []
after_line (b ∷ bs) = if b == newline then bs else after_line bs

-- the bytes up to the first blank
abbrev pub first_field : List ℕ → List ℕ
first_field [] = []
first_field (b ∷ bs) = if b == space then [] else b ∷ first_field bs

-- the bytes after the first blank
abbrev pub after_field : List ℕ → List ℕ
after_field [] = []
after_field (b ∷ bs) = if b == space then bs else after_field bs

-- the lines; a last line without a newline counts
abbrev pub lines_of : List ℕ → List (List ℕ)
lines_of [] = []
lines_of (b ∷ bs) = if b == newline then [] ∷ lines_of bs else onto_first b (lines_of bs)

-- a rune in a text of one line
abbrev pub escaped : ℕ → List ℕ
escaped c = if c == newline then backslash ∷ letter_n ∷ [] else (if c == backslash then backslash ∷ backslash ∷ [] else
    rune_bytes c)
