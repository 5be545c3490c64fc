use Rattle.std.proofs.Common.{◌≡◌, ◌<◌, ◌≤◌, ◌+◌, List, [], length, map, drop, refl, subst, arith}
use Rattle.re_syntax.specs.Tree.{tree}
use Rattle.re_syntax.specs.Nodes.{Node, node_of}
use Rattle.re_machine.specs.Listed.{tree_of, list_of}
use Rattle.re_machine.specs.Filling.{IsFilling}
use Rattle.re_machine.proofs.Joining.{len}
use Rattle.re_machine.proofs.Dropping.{drop_map_at, drop_map_all}
use Rattle.re_machine.proofs.Listing.{builds_tree}
use Rattle.re_machine.proofs.Parts.{begun, whole_part, WholePart}
use Rattle.re_machine.proofs.fill.fill.Goals as goal

pub loop-k-init : goal.loop-k-init
loop-k-init g c =
    let bits = g.S.LetterSet.bits in
    let nodes = c.args.nodes.now in
    begun bits c.args.here (map bits c.args.rows.now) (tree_of nodes) (list_of nodes)
    (record { parts = c.new.result; next = 0 }) (builds_tree nodes.back (tree nodes.re.now) (list_of nodes)
    c.requires.listed) c.new.ensures.items refl (omega (arith, c.requires.few, len bits c.args.rows.now))

pub loop-k-preserved : goal.loop-k-preserved
loop-k-preserved g c =
    let bits = g.S.LetterSet.bits in
    let nodes = c.args.nodes.now in
    let k = c.loop-k.k in
    let e = drop_map_at (λ r. node_of (tree r.now)) nodes.list.items k (k + 1) c.index.result.now
    (omega (arith, c.loop-k-test.true, c.len-k-end.ensures, nodes.list.ok.0)) c.index.ensures (omega arith) in
    c.in_ok-fill_node.ensures.filled (map bits c.args.rows.now) (tree_of nodes) (drop (k + 1) (list_of nodes))
    (subst (λ (z : List Node). IsFilling bits c.args.here (map bits c.args.rows.now) (tree_of nodes) z
    c.loop-k.filling (map bits c.loop-k.rows)) e c.loop-k.invariant)
