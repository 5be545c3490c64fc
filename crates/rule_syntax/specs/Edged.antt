-- The edges of the expression that an argument is.
use Rattle.std.specs.Prelude.{◌≡◌, ℕ, true, List, length, None}
use Rattle.re_edges.specs.Edges.{edges_of}
use Rattle.re_edges.specs.declared.edges.Edges.{Edges}
use Rattle.re_syntax.specs.Grammar.{IsExpression}
use Rattle.re_syntax.specs.Match.{Matches}
use Rattle.re_syntax.specs.Tree.{Tree}
use Rattle.rule_syntax.specs.Arguments.{is_literal, runes_of}
use Rattle.rule_syntax.specs.declared.expression.Judged.{Judged}
use Rattle.rule_syntax.specs.declared.fit.Fit.{Fit}
use Rattle.rule_syntax.specs.declared.rule.Piece.{Piece}

-- the edges of the expression that a text is
abbrev pub AreEdges : List ℕ → Edges → Type 0
AreEdges text e = (r : Tree) → IsExpression None text r → e ≡ edges_of r

-- the edges of the expression that an argument without variables is
pub record AreEdgesOf (pieces : List Piece) (e : Edges) : Type 0 where
  pub literal : is_literal pieces ≡ true
  pub edges : AreEdges (runes_of pieces) e

-- what is known of an argument that is no expression without variables
abbrev pub without_edges : Fit → Judged
without_edges fit = record { fit = fit; edges = None }

-- an argument without variables is no expression that matches the whole text
pub record NeverMatches (pieces : List Piece) (text : List ℕ) : Type 0 where
  pub literal : is_literal pieces ≡ true
  pub never : (r : Tree) → IsExpression None (runes_of pieces) r → Matches r text 0 (length text) → ⊥
