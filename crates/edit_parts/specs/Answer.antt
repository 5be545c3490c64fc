-- What reading a piece answers.
use Rattle.std.specs.Prelude.{◌≡◌, ◌≤◌, ◌<◌, ℕ, true, false, List, ◌++◌, length, drop, slice_range, Option, Some, None}
use Rattle.re_syntax.specs.Tree as expression
use Rattle.re_syntax.specs.declared.re.Re.{Re}
use Rattle.addr_syntax.specs.Marks.{next_of}
use Rattle.addr_syntax.specs.Answer.{IsLimited}
use Rattle.addr_syntax.specs.declared.address.Limited.{Limited}
use Rattle.addr_syntax.specs.declared.address.Limited.TheVariants.{Whole, Deep, Large}
use Rattle.addr_syntax.specs.declared.address.SynFault.{SynFault}
use Rattle.addr_syntax.specs.declared.address.SynFault.TheVariants as fault
use Rattle.addr_syntax.specs.Tree as address
use Rattle.edit_parts.specs.Tree.{Action, action}
use Rattle.edit_parts.specs.Limits.{is_large, is_long}
use Rattle.edit_parts.specs.Kinds.{loop_of, ends_line}
use Rattle.edit_parts.specs.Pieces.{Piece, Blank, EndsLine, At, Loops, Opens, Closes, Does, IsPiece}
use Rattle.edit_parts.specs.declared.command.Act.{Act}
use Rattle.edit_parts.specs.declared.token.Token.{Token}
use Rattle.edit_parts.specs.declared.token.Token.TheVariants as token

-- the expression that is built; None stands for one of more than 2,048 nodes
abbrev pub IsBuiltExpression : Option Re → expression.Tree → Type 0
IsBuiltExpression (Some e) re = (expression.tree e ≡ re) × (expression.nodes re ≤ expression.most_nodes)
IsBuiltExpression None re = expression.most_nodes < expression.nodes re

-- what is built of an action: all of it inside the limits
abbrev pub IsBuiltAction : Limited Act → Action → Type 0
IsBuiltAction (Whole built) act = (action built ≡ act) × (is_large act ≡ false) × (is_long act ≡ false)
IsBuiltAction Deep act = (is_large act ≡ false) × (is_long act ≡ true)
IsBuiltAction Large act = is_large act ≡ true

-- a token is this piece
abbrev pub IsToken : Token → Piece → Type 0
IsToken token.Blank p = p ≡ Blank
IsToken token.EndsLine p = p ≡ EndsLine
IsToken (token.At built) p = (a : address.Tree) × (p ≡ At a) × IsLimited built a
IsToken (token.Loops k built) p = (re : expression.Tree) × (p ≡ Loops (loop_of k) re) × IsBuiltExpression built re
IsToken token.Opens p = p ≡ Opens
IsToken token.Closes p = p ≡ Closes
IsToken (token.Does built) p = (act : Action) × (p ≡ Does act) × IsBuiltAction built act

-- the piece from one place up to another
pub record IsPieceAt (text : List ℕ) (at : ℕ) (p : Piece) (end : ℕ) : Type 0 where
  pub order : at < end
  pub within : end ≤ length text
  pub written : IsPiece p (slice_range text at end) (next_of (drop end text))

-- the token from one place up to another
abbrev pub IsTokenAt : List ℕ → ℕ → Token → ℕ → Type 0
IsTokenAt text at t end = (p : Piece) × IsToken t p × IsPieceAt text at p end

-- a piece goes on from one place up to another, and none does there
pub record IsBadPiece (text : List ℕ) (at place : ℕ) : Type 0 where
  pub order : at ≤ place
  pub within : place ≤ length text
  -- with some runes more it is whole, at the end of a line or of the text
  pub before : at < place → (more : List ℕ) × (p : Piece)
      × ((next : Option ℕ) → ends_line next ≡ true → IsPiece p (slice_range text at place ++ more) next)
  pub dead : (more : List ℕ) → next_of more ≡ next_of (drop place text) → (p : Piece) (piece behind : List ℕ)
      → slice_range text at place ++ more ≡ piece ++ behind → IsPiece p piece (next_of behind) → ⊥

-- why no piece is read
abbrev pub PieceFails : List ℕ → ℕ → SynFault → Type 0
PieceFails text at (fault.Bad place) = IsBadPiece text at place
PieceFails text at fault.Nodes = ⊥
PieceFails text at fault.Deep = ⊥
PieceFails text at fault.NoMemory = Unit {0}
