-- Words of a line of rules.
use Rattle.std.specs.Prelude.{ℕ, ◌-◌, Bool, false, ◌||◌, ◌==◌, List, [], ◌∷◌, length, take, if◌then◌else◌}
use Rattle.std.specs.Int.{is_in_range}
use Rattle.std.specs.List.{list_all, suffix_len}
use Rattle.am_text.specs.Ascii as ascii

-- a blank or a tab
abbrev pub is_gap : ℕ → Bool
is_gap c = c == ascii.space || c == ascii.tab

abbrev pub is_blank : ℕ → Bool
is_blank c = c == ascii.space

abbrev pub is_digit : ℕ → Bool
is_digit c = is_in_range ascii.digit_0 ascii.digit_9 c

-- a letter of ASCII, a digit or `_`
abbrev pub is_name_rune : ℕ → Bool
is_name_rune c = is_digit c || is_in_range 65 90 c || is_in_range 97 122 c || c == ascii.underscore

-- the text up to its first blank or tab, and the text from there on
abbrev pub word : List ℕ → List ℕ
word [] = []
word (c ∷ cs) = if is_gap c then [] else c ∷ word cs

abbrev pub after_word : List ℕ → List ℕ
after_word [] = []
after_word (c ∷ cs) = if is_gap c then c ∷ cs else after_word cs

-- the text after the blanks and tabs in front
abbrev pub after_gaps : List ℕ → List ℕ
after_gaps [] = []
after_gaps (c ∷ cs) = if is_gap c then after_gaps cs else c ∷ cs

-- the text after the blanks in front
abbrev pub after_blanks : List ℕ → List ℕ
after_blanks [] = []
after_blanks (c ∷ cs) = if is_blank c then after_blanks cs else c ∷ cs

-- the text without the blanks at its end
abbrev pub trimmed : List ℕ → List ℕ
trimmed text = take (length text - suffix_len is_blank text) text

-- the letters, digits and `_` in front, and what follows them
abbrev pub name_part : List ℕ → List ℕ
name_part [] = []
name_part (c ∷ cs) = if is_name_rune c then c ∷ name_part cs else []

abbrev pub after_name : List ℕ → List ℕ
after_name [] = []
after_name (c ∷ cs) = if is_name_rune c then after_name cs else c ∷ cs

-- blanks and tabs alone
abbrev pub is_blank_line : List ℕ → Bool
is_blank_line line = list_all is_gap line

-- a line with `#` at its front
abbrev pub is_comment : List ℕ → Bool
is_comment [] = false
is_comment (c ∷ cs) = c == ascii.hash

abbrev pub begins_with_digit : List ℕ → Bool
begins_with_digit [] = false
begins_with_digit (c ∷ cs) = is_digit c
