use Rattle.std.proofs.Common.{◌≡◌, [], ◌∷◌, length, map}
use Rattle.re_syntax.specs.Tree.{tree}
use Rattle.re_syntax.specs.Nodes.{node_of}
use Rattle.re_spans.specs.Fresh.{with_nodes}
use Rattle.re_spans.specs.Marks.{marks_of, fresh}
use Rattle.re_spans.proofs.marks.fresh.Given as goal

abbrev pub invariant-nodes : goal.invariant-nodes
invariant-nodes l = with_nodes l.way l.here (map (λ r. node_of (tree r.now)) l.left.items)
    (map marks_of l.made.items) ≡ fresh l.way (tree l.re) l.here ∷ []

abbrev pub decreases-nodes : goal.decreases-nodes
decreases-nodes l = length l.left.items
