-- How the pieces of a command are written.
use Rattle.std.specs.Prelude.{◌≡◌, ◌⊎◌, ℕ, Bool, false, List, [], ◌∷◌, ◌++◌, Option}
use Rattle.am_text.specs.Ascii.{newline, hash, slash}
use Rattle.re_syntax.specs.Tree as expression
use Rattle.re_syntax.specs.Tree.{AnyLetter, Letter, Then, Many}
use Rattle.addr_syntax.specs.Tree as address
use Rattle.addr_syntax.specs.Marks.{next_of}
use Rattle.addr_syntax.specs.Grammar.{Begins}
use Rattle.edit_parts.specs.Tree as tree
use Rattle.edit_parts.specs.Tree.{Action, Loop}
use Rattle.edit_parts.specs.Kinds.{kind_of, loop_of, puts, sends, request_of, is_next}
use Rattle.edit_parts.specs.Texts.{after_blanks, Closed, Quoted, RestOfLine, Text, Nth, All}
use Rattle.edit_parts.specs.declared.kind.Letter.{Letter as Sign}
use Rattle.edit_parts.specs.declared.kind.Letter.TheVariants as letter
use Rattle.edit_parts.specs.declared.kind.Loop as loops
use Rattle.edit_parts.specs.declared.kind.Loop.TheVariants.{ForEach, ForBetween, Where, WhereNot}
use Rattle.edit_parts.specs.declared.kind.Kind.{Kind}
use Rattle.edit_parts.specs.declared.kind.Kind.TheVariants as kind

-- A piece of a command.
pub data Piece : Type 0 where
  -- U+0020, newline
  Blank : Piece
  EndsLine : Piece
  -- an address
  At : (a : address.Tree) → Piece
  -- one of `x y g v` with its expression; its command comes next
  Loops : (kind : Loop) (re : expression.Tree) → Piece
  -- `{`, `}`
  Opens : Piece
  Closes : Piece
  -- any other letter with all its parts
  Does : (act : Action) → Piece

-- `.*\n`, the expression of an `x` that is written without one
abbrev pub whole_lines : expression.Tree
whole_lines = Then (Many AnyLetter) (Letter newline)

-- how the expression of a loop is written behind its letter and blanks
abbrev pub LoopsOver : loops.Loop → expression.Tree → List ℕ → List ℕ → Type 0
LoopsOver ForEach re text rest =
    Quoted re text rest ⊎ ((re ≡ whole_lines) × (text ≡ rest) × (is_next slash (next_of rest) ≡ false))
LoopsOver ForBetween re text rest = Quoted re text rest
LoopsOver Where re text rest = Quoted re text rest
LoopsOver WhereNot re text rest = Quoted re text rest

-- how the action of `s` is written: its number, `/re/`, `t/`, and maybe a `g`
abbrev pub SubstitutesAs : Action → List ℕ → List ℕ → Type 0
SubstitutesAs act text rest = (n : ℕ) × (re : expression.Tree) × (with : List ℕ) × (all : Bool)
    × (act ≡ tree.Substitute n re with all)
    × ((l m k : List ℕ) × Nth n text l × Quoted re l m × Closed with m k × All all (after_blanks k) rest)

-- how an action is written behind its letter
abbrev pub ActsAs : Sign → Action → List ℕ → List ℕ → Type 0
ActsAs (letter.Puts place) act text rest = (t : List ℕ) × (act ≡ puts place t) × Text t (after_blanks text) rest
ActsAs letter.Delete act text rest = (act ≡ tree.Delete) × (text ≡ rest)
ActsAs letter.Substitute act text rest = SubstitutesAs act (after_blanks text) rest
ActsAs (letter.Sends way) act text rest = (a : address.Tree) × (act ≡ sends way a) × Begins a (after_blanks text) rest
ActsAs letter.Print act text rest = (act ≡ tree.Print) × (text ≡ rest)
ActsAs letter.Equals act text rest =
    ((act ≡ tree.RuneNumber) × (text ≡ hash ∷ rest))
    ⊎ ((act ≡ tree.LineNumber) × (text ≡ rest) × (is_next hash (next_of rest) ≡ false))
ActsAs (letter.Asks request) act text rest =
    (t : List ℕ) × (act ≡ tree.Asks (request_of request) t) × RestOfLine t (after_blanks text) rest

-- how a piece of this kind is written: its first rune, what stands behind that, and the rest behind the piece
abbrev pub GoesOnAs : Kind → Piece → ℕ → List ℕ → List ℕ → Type 0
GoesOnAs kind.Blank p c text rest = (p ≡ Blank) × (text ≡ rest)
GoesOnAs kind.EndsLine p c text rest = (p ≡ EndsLine) × (text ≡ rest)
GoesOnAs kind.Address p c text rest = (a : address.Tree) × (p ≡ At a) × Begins a (c ∷ text) rest
GoesOnAs (kind.Loops k) p c text rest =
    (re : expression.Tree) × (p ≡ Loops (loop_of k) re) × LoopsOver k re (after_blanks text) rest
GoesOnAs kind.Opens p c text rest = (p ≡ Opens) × (text ≡ rest)
GoesOnAs kind.Closes p c text rest = (p ≡ Closes) × (text ≡ rest)
GoesOnAs (kind.Acts l) p c text rest = (act : Action) × (p ≡ Does act) × ActsAs l act text rest
GoesOnAs kind.Other p c text rest = ⊥

-- a text begins with this piece, and this is the rest behind it; the first rune says which kind it is
abbrev pub BeginsAs : Piece → List ℕ → List ℕ → Type 0
BeginsAs p [] rest = ⊥
BeginsAs p (c ∷ text) rest = GoesOnAs (kind_of c) p c text rest

-- a piece is written so where this rune comes next, whatever stands behind that
abbrev pub IsPiece : Piece → List ℕ → Option ℕ → Type 0
IsPiece p [] next = ⊥
IsPiece p (c ∷ cs) next = (rest : List ℕ) → next_of rest ≡ next → BeginsAs p (c ∷ cs ++ rest) rest
