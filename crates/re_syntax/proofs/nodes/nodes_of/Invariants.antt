use Rattle.std.proofs.Common.{◌≡◌, ◌++◌, map}
use Rattle.re_syntax.specs.Tree.{tree}
use Rattle.re_syntax.specs.Nodes.{node_of, nodes_of, nodes_of_all}
use Rattle.re_syntax.proofs.Listing.{total}
use Rattle.re_syntax.proofs.nodes.nodes_of.Given as goal

abbrev pub invariant-nodes : goal.invariant-nodes
invariant-nodes l = nodes_of_all l.back (map (λ r. tree r.now) l.rest.items)
    ++ map (λ r. node_of (tree r.now)) l.all.items ≡ nodes_of l.back (tree l.re)

abbrev pub decreases-nodes : goal.decreases-nodes
decreases-nodes l = total (map (λ r. tree r.now) l.rest.items)
