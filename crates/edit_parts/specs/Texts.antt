-- How the texts in commands are written.
use Rattle.std.specs.Prelude.{◌≡◌, ◌⊎◌, ◌==◌, ◌&&◌, ◌||◌, ◌+◌, not, ℕ, Bool, true, false, List, [], ◌∷◌, ◌++◌, Some}
use Rattle.std.specs.Prelude.{if◌then◌else◌}
use Rattle.am_text.specs.Ascii.{newline, space, dot, slash, backslash, letter_n}
use Rattle.re_syntax.specs.Tree as expression
use Rattle.re_syntax.specs.Grammar.{IsExpression}
use Rattle.addr_syntax.specs.Marks.{next_of, is_digit}
use Rattle.addr_syntax.specs.Pieces.{IsNumber}
use Rattle.addr_syntax.specs.Scan.{is_whole}
use Rattle.edit_parts.specs.Kinds.{letter_g, ends_line, is_next}

-- the text behind its blanks
abbrev pub after_blanks : List ℕ → List ℕ
after_blanks [] = []
after_blanks (c ∷ cs) = if c == space then after_blanks cs else c ∷ cs

-- what a rune behind a backslash stands for
abbrev pub escaped : ℕ → List ℕ
escaped c =
    if c == letter_n then newline ∷ [] else (if (c == slash) || (c == backslash) then c ∷ [] else backslash ∷ c ∷ [])

-- what a text stands for: `\n` is a newline, `\/` and `\\` are `/` and `\`; any other rune stands, with
-- a backslash before it too
abbrev pub unescaped : Bool → List ℕ → List ℕ
unescaped b [] = []
unescaped true (c ∷ cs) = escaped c ++ unescaped false cs
unescaped false (c ∷ cs) = if c == backslash then unescaped true cs else c ∷ unescaped false cs

-- whole lines, none of which is `.`; starts says that a line begins here
abbrev pub are_lines : Bool → List ℕ → Bool
are_lines starts [] = starts
are_lines starts (c ∷ cs) = not (starts && (c == dot) && ends_line (next_of cs)) && are_lines (c == newline) cs

-- how many runes stand before the first line `.`
abbrev pub lines_length : Bool → List ℕ → ℕ
lines_length starts [] = 0
lines_length starts (c ∷ cs) =
    if starts && (c == dot) && ends_line (next_of cs) then 0 else lines_length (c == newline) cs + 1

-- how many runes stand before the first newline
abbrev pub line_length : List ℕ → ℕ
line_length [] = 0
line_length (c ∷ cs) = if c == newline then 0 else line_length cs + 1

-- a newline is among the runes
abbrev pub has_newline : List ℕ → Bool
has_newline [] = false
has_newline (c ∷ cs) = (c == newline) || has_newline cs

-- Each of these says: a text begins with something, and this is the rest after it.

-- `t/`; each `/` in t has a backslash before it, and each such backslash a rune behind it
abbrev pub Closed : List ℕ → List ℕ → List ℕ → Type 0
Closed t text rest = (text ≡ t ++ slash ∷ rest) × (is_whole slash false t ≡ true)

-- `/re/`
abbrev pub Quoted : expression.Tree → List ℕ → List ℕ → Type 0
Quoted re text rest = (body : List ℕ) × (text ≡ slash ∷ body ++ slash ∷ rest) × IsExpression (Some slash) body re

-- lines from the next one on, and a line `.`
abbrev pub Lines : List ℕ → List ℕ → List ℕ → Type 0
Lines t text rest = (text ≡ t ++ dot ∷ rest) × (are_lines true t ≡ true) × (ends_line (next_of rest) ≡ true)

-- all runes up to the line's end
abbrev pub RestOfLine : List ℕ → List ℕ → List ℕ → Type 0
RestOfLine t text rest = (text ≡ t ++ rest) × (has_newline t ≡ false) × (ends_line (next_of rest) ≡ true)

-- the text of `a`, `i` and `c`: `/t/`, or a newline and lines
abbrev pub Text : List ℕ → List ℕ → List ℕ → Type 0
Text t [] rest = ⊥
Text t (c ∷ cs) rest =
    ((c ≡ slash) × (body : List ℕ) × (t ≡ unescaped false body) × Closed body cs rest)
    ⊎ ((c ≡ newline) × Lines t cs rest)

-- the number of a match and the blanks behind it; 1 where none is written
abbrev pub Nth : ℕ → List ℕ → List ℕ → Type 0
Nth n text rest =
    ((is_digit (next_of text) ≡ false) × (n ≡ 1) × (rest ≡ text))
    ⊎ ((digits behind : List ℕ) × (text ≡ digits ++ behind) × IsNumber n digits (next_of behind)
    × (rest ≡ after_blanks behind))

-- a `g`, where there is one
abbrev pub All : Bool → List ℕ → List ℕ → Type 0
All true text rest = text ≡ letter_g ∷ rest
All false text rest = (text ≡ rest) × (is_next letter_g (next_of rest) ≡ false)
