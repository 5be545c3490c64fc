use Rattle.std.proofs.Common.{◌≡◌, ◌+◌, List, false, map, drop, subst, arith}
use Rattle.re_syntax.specs.Tree.{tree}
use Rattle.re_syntax.specs.Nodes.{Node, node_of, Builds}
use Rattle.re_sets.proofs.Mirrored.{read_on}
use Rattle.re_machine.proofs.Dropping.{drop_map_at, drop_map_all}
use Rattle.re_machine.proofs.Listing.{builds_tree, builds_one, builds_some}
use Rattle.re_machine.proofs.copy.copy.Goals as goal

pub loop-k-init : goal.loop-k-init
loop-k-init c = rw c.new-copies.ensures.items (rw (read_on (tree c.args.re.now)) at
    (builds_tree false (tree c.args.re.now) (map (λ r. node_of (tree r.now)) c.in_ok-nodes.nodes.items)
    c.in_ok-nodes.ensures))

pub loop-k-preserved : goal.loop-k-preserved
loop-k-preserved c =
    let items = c.in_ok-nodes.nodes.items in
    let k = c.loop-k.k in
    let e = drop_map_at (λ r. node_of (tree r.now)) items k (k + 1) c.index.result.now
    (omega (arith, c.loop-k-test.true, c.len-k-end.ensures, c.in_ok-nodes.nodes.ok.0)) c.index.ensures
    (omega arith) in
    c.in_ok-put_copy.ensures (drop (k + 1) (map (λ r. node_of (tree r.now)) items)) (tree c.args.re.now)
    (subst (λ (z : List Node). Builds z (map tree c.loop-k.copies.items) (tree c.args.re.now)) e c.loop-k.invariant)
