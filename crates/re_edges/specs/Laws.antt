-- What holds of the edges of all expressions.
use Rattle.std.specs.Prelude.{◌≡◌, ℕ, true, List, length}
use Rattle.re_syntax.specs.Match.{Matches}
use Rattle.re_syntax.specs.Tree.{Tree}
use Rattle.re_edges.specs.Edges.{edges_of, may_be_whole}

-- a text that is a match as a whole looks at its edges as the expression says
abbrev pub MatchesKeepToEdges : Type 0
MatchesKeepToEdges = (r : Tree) (t : List ℕ) → Matches r t 0 (length t) → may_be_whole (edges_of r) t ≡ true
