-- What the first rune of a piece says.
use Rattle.std.specs.Prelude.{ℕ, ◌==◌, Bool, true, false, List, [], ◌∷◌, Option, Some, None, if◌then◌else◌}
use Rattle.std.specs.Char.{is_ascii_digit}
use Rattle.am_text.specs.Ascii.{hash, dollar, plus, comma, minus, dot, slash, semicolon, question}
use Rattle.addr_syntax.specs.declared.mark.Sign.TheVariants.{Plus, Minus}
use Rattle.addr_syntax.specs.declared.mark.Separator.TheVariants.{Comma, Semi}
use Rattle.addr_syntax.specs.declared.mark.Mark.{Mark}
use Rattle.addr_syntax.specs.declared.mark.Mark.TheVariants.{Signs, Separates, Dot, Dollar, Digit, Hash, Slash, Query}
use Rattle.addr_syntax.specs.declared.mark.Mark.TheVariants.{Other}

-- what the first rune of a piece says
unfoldable pub mark_of : ℕ → Mark
mark_of c =
    if c == plus then Signs Plus
    else (if c == minus then Signs Minus
    else (if c == comma then Separates Comma
    else (if c == semicolon then Separates Semi
    else (if c == dot then Dot
    else (if c == dollar then Dollar
    else (if c == hash then Hash
    else (if c == slash then Slash
    else (if c == question then Query
    else (if is_ascii_digit c then Digit
    else Other)))))))))

-- the rune that comes next, where there is one
abbrev pub next_of : List ℕ → Option ℕ
next_of [] = None
next_of (c ∷ cs) = Some c

-- the rune, if there is one, is a decimal digit
abbrev pub is_digit : Option ℕ → Bool
is_digit None = false
is_digit (Some c) = is_ascii_digit c

-- a piece begins with a rune that says this
abbrev pub is_mark : Mark → Bool
is_mark (Signs k) = true
is_mark (Separates k) = true
is_mark Dot = true
is_mark Dollar = true
is_mark Digit = true
is_mark Hash = true
is_mark Slash = true
is_mark Query = true
is_mark Other = false

-- a piece begins with the rune
abbrev pub begins_piece : Option ℕ → Bool
begins_piece None = false
begins_piece (Some c) = is_mark (mark_of c)
