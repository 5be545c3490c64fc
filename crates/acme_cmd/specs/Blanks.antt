-- Blanks, and texts cut at them.
use Rattle.std.specs.Prelude.{ℕ, ◌+◌, ◌-◌, ◌≤◌, Bool, ◌||◌, ◌==◌, List, [], ◌∷◌, length, if◌then◌else◌}
use Rattle.std.specs.List.{suffix_len}
use Rattle.am_text.specs.Ascii.{tab, newline, space}
use Rattle.am_text.specs.declared.range.Range.{Range}

-- a blank, a tab or a newline
abbrev pub is_blank : ℕ → Bool
is_blank c = c == space || c == tab || c == newline

-- the text after the blanks in front
abbrev pub after_blanks : List ℕ → List ℕ
after_blanks [] = []
after_blanks (c ∷ cs) = if is_blank c then after_blanks cs else c ∷ cs

-- the text up to its first blank
abbrev pub word : List ℕ → List ℕ
word [] = []
word (c ∷ cs) = if is_blank c then [] else c ∷ word cs

-- the text from its first blank on
abbrev pub after_word : List ℕ → List ℕ
after_word [] = []
after_word (c ∷ cs) = if is_blank c then c ∷ cs else after_word cs

-- how long a text is without the blanks at its end
abbrev pub end_of : List ℕ → ℕ
end_of text = length text - suffix_len is_blank text

-- where the end of a text stands in it
abbrev pub place_of : List ℕ → List ℕ → ℕ
place_of text rest = length text - length rest

-- the range lies in a text of this length
abbrev pub IsIn : ℕ → Range → Type 0
IsIn n r = (r.q0 ≤ r.q1) × (r.q1 ≤ n)

-- where the end of a text stands in it, without the blanks at both its ends
abbrev pub trimmed : List ℕ → List ℕ → Range
trimmed text rest = record {
  q0 = place_of text (after_blanks rest);
  q1 = place_of text (after_blanks rest) + end_of (after_blanks rest);
}
