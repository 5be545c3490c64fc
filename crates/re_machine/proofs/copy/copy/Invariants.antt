use Rattle.std.specs.Prelude.{drop, map}
use Rattle.re_syntax.specs.Tree.{tree}
use Rattle.re_syntax.specs.Nodes.{node_of, Builds}
use Rattle.re_machine.proofs.copy.copy.Given as goal

abbrev pub invariant-loop-k : goal.invariant-loop-k
invariant-loop-k l = Builds (drop l.k (map (λ r. node_of (tree r.now)) l.nodes.items)) (map tree l.copies.items)
    (tree l.re)
