-- The texts, numbers and addresses in commands, as functions of the text that begins with them.
use Rattle.std.specs.Prelude.{ℕ, zero, suc, ◌+◌, ◌-◌, ◌*◌, ◌^◌, ◌==◌, ◌&&◌, Bool, true, false, nat_lt, List, [], ◌∷◌}
use Rattle.std.specs.Prelude.{length, Some, None, if◌then◌else◌}
use Rattle.std.specs.Char.{is_ascii_digit}
use Rattle.am_text.specs.Ascii.{newline, dot, slash, digit_0, backslash}
use Rattle.re_syntax.specs.Tree as expression
use Rattle.addr_syntax.specs.Tree as address
use Rattle.addr_syntax.specs.Marks.{next_of, is_digit, begins_piece}
use Rattle.addr_syntax.specs.Pieces as part
use Rattle.addr_syntax.specs.Addresses.{expression_of, first_piece, tree_of_pieces}
use Rattle.edit_parts.specs.Kinds.{letter_g, ends_line}
use Rattle.edit_parts.specs.Texts.{after_blanks, unescaped}
use Rattle.sam_syntax.specs.Cuts.{Cut, cut_as, cut_on, before, with_rune}

-- the text up to the first `/` that stands behind no backslash; escaped says that one stands before the text
abbrev pub up_to_slash : Bool → List ℕ → Cut (List ℕ)
up_to_slash escaped [] = None
up_to_slash true (c ∷ cs) = with_rune c (up_to_slash false cs)
up_to_slash false (c ∷ cs) = if slash == c then Some ([], cs) else with_rune c (up_to_slash (c == backslash) cs)

-- the lines up to the first that is `.`; starts says that a line begins here
abbrev pub lines : Bool → List ℕ → Cut (List ℕ)
lines starts [] = None
lines starts (c ∷ cs) =
    if starts && (c == dot) && ends_line (next_of cs) then Some ([], cs) else with_rune c (lines (c == newline) cs)

-- all runes up to the line's end
abbrev pub rest_of_line : List ℕ → Cut (List ℕ)
rest_of_line [] = Some ([], [])
rest_of_line (c ∷ cs) = if c == newline then Some ([], c ∷ cs) else with_rune c (rest_of_line cs)

-- the text of `a`, `i` and `c`: `/t/`, or a newline and lines
abbrev pub text : List ℕ → Cut (List ℕ)
text [] = None
text (c ∷ cs) =
    if c == slash then cut_as (unescaped false) (up_to_slash false cs)
    else (if c == newline then lines true cs else None)

-- `/re/`
abbrev pub quoted_expression : List ℕ → Cut expression.Tree
quoted_expression [] = None
quoted_expression (c ∷ cs) =
    if c == slash then cut_on (up_to_slash false cs) (λ body behind. before (expression_of slash body) behind) else None

-- the number that n and then all digits at the front spell, below 2 ^ 64
unfoldable pub number_from : ℕ → List ℕ → Cut ℕ
number_from n [] = Some (n, [])
number_from n (c ∷ cs) =
    if is_ascii_digit c then (if nat_lt (n * 10 + (c - digit_0)) (2 ^ 64) then number_from (n * 10 + (c - digit_0)) cs
    else None) else Some (n, c ∷ cs)

-- the number of a match and the blanks behind it; 1 where none is written
abbrev pub nth : List ℕ → Cut ℕ
nth text =
    if is_digit (next_of text) then cut_on (number_from 0 text) (λ n behind. Some (n, after_blanks behind))
    else Some (1, text)

-- a `g`, where there is one
abbrev pub all : List ℕ → Cut Bool
all [] = Some (false, [])
all (c ∷ cs) = if c == letter_g then Some (true, cs) else Some (false, c ∷ cs)

-- ---- addresses

-- the pieces of an address up to a rune that begins none, n at most
unfoldable pub row_within : ℕ → List ℕ → Cut (List part.Piece)
row_within n [] = Some ([], [])
row_within zero (c ∷ cs) = None
row_within (suc n) (c ∷ cs) =
    if begins_piece (Some c) then cut_on (first_piece (c ∷ cs))
    (λ p behind. cut_as (λ ps. p ∷ ps) (row_within n behind)) else Some ([], c ∷ cs)

-- the address, as long as it can be; each piece has a rune at least
abbrev pub first_address : List ℕ → Cut address.Tree
first_address text = cut_on (row_within (length text) text) (λ ps behind. before (tree_of_pieces (Some ps)) behind)
