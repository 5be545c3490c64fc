-- How the pieces of an address are written.
use Rattle.std.specs.Prelude.{◌≡◌, ◌⊎◌, ℕ, false, List, [], ◌∷◌, ◌++◌, Option, Some, None}
use Rattle.am_text.specs.Number.{number_after}
use Rattle.am_text.specs.Ascii.{slash, question}
use Rattle.re_syntax.specs.Tree as expression
use Rattle.re_syntax.specs.Grammar.{IsExpression}
use Rattle.addr_syntax.specs.Tree.{Tree, Dot, End, RuneAt, LineAt, Forward, Backward}
use Rattle.addr_syntax.specs.Marks.{mark_of, next_of, is_digit}
use Rattle.addr_syntax.specs.declared.mark.Sign.{Sign}
use Rattle.addr_syntax.specs.declared.mark.Separator.{Separator}
use Rattle.addr_syntax.specs.declared.mark.Mark.{Mark}
use Rattle.addr_syntax.specs.declared.mark.Mark.TheVariants as mark

-- a part, one of `+ -`, or one of `, ;`
pub data Piece : Type 0 where
  Part : (a : Tree) → Piece
  Adds : (k : Sign) → Piece
  Splits : (k : Separator) → Piece

-- the number that these digits spell: all that follow one another, the next rune being none
abbrev pub IsNumber : ℕ → List ℕ → Option ℕ → Type 0
IsNumber n [] next = ⊥
IsNumber n (d ∷ ds) next = (number_after 0 (d ∷ ds) ≡ Some n) × (is_digit next ≡ false)

-- an expression and its last delimiter, which may be missing at the end of the text
abbrev pub IsSearch : ℕ → expression.Tree → List ℕ → Option ℕ → Type 0
IsSearch delimiter re text next =
    (body : List ℕ) × IsExpression (Some delimiter) body re
    × ((text ≡ body ++ delimiter ∷ []) ⊎ ((text ≡ body) × (next ≡ None)))

-- how a piece goes on after its first rune
abbrev pub GoesOnAs : Mark → Piece → ℕ → List ℕ → Option ℕ → Type 0
GoesOnAs (mark.Signs k) p c cs next = (p ≡ Adds k) × (cs ≡ [])
GoesOnAs (mark.Separates k) p c cs next = (p ≡ Splits k) × (cs ≡ [])
GoesOnAs mark.Dot p c cs next = (p ≡ Part Dot) × (cs ≡ [])
GoesOnAs mark.Dollar p c cs next = (p ≡ Part End) × (cs ≡ [])
GoesOnAs mark.Digit p c cs next = (n : ℕ) × (p ≡ Part (LineAt n)) × IsNumber n (c ∷ cs) next
GoesOnAs mark.Hash p c cs next = (n : ℕ) × (p ≡ Part (RuneAt n)) × IsNumber n cs next
GoesOnAs mark.Slash p c cs next = (re : expression.Tree) × (p ≡ Part (Forward re)) × IsSearch slash re cs next
GoesOnAs mark.Query p c cs next = (re : expression.Tree) × (p ≡ Part (Backward re)) × IsSearch question re cs next
GoesOnAs mark.Other p c cs next = ⊥

-- a piece is written so, where this rune comes next
abbrev pub IsPiece : Piece → List ℕ → Option ℕ → Type 0
IsPiece p [] next = ⊥
IsPiece p (c ∷ cs) next = GoesOnAs (mark_of c) p c cs next

-- a text begins with these pieces, and this is the rest after them
abbrev pub BeginsWith : List Piece → List ℕ → List ℕ → Type 0
BeginsWith [] text rest = text ≡ rest
BeginsWith (p ∷ ps) text rest =
    (piece behind : List ℕ) × (text ≡ piece ++ behind) × IsPiece p piece (next_of behind) × BeginsWith ps behind rest
