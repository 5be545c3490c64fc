use Rattle.std.proofs.Common.{◌≡◌, ◌∙◌, ◌+◌, map, drop, arith}
use Rattle.re_syntax.specs.Tree.{tree}
use Rattle.re_syntax.specs.Nodes.{node_of}
use Rattle.re_machine.specs.Listed.{list_of}
use Rattle.re_machine.proofs.Dropping.{drop_map_at, drop_map_all}
use Rattle.re_machine.proofs.Listing.{letters_tree, letters_more, letters_done}
use Rattle.re_machine.proofs.leaves.leaves_of.Goals as goal

pub loop-k-preserved : goal.loop-k-preserved
loop-k-preserved c =
    let nodes = c.args.nodes.now in
    let k = c.loop-k.k in
    let e = drop_map_at (λ r. node_of (tree r.now)) nodes.list.items k (k + 1) c.index.result.now
    (omega (arith, c.loop-k-test.true, c.len-k-end.ensures, nodes.list.ok.0)) c.index.ensures (omega arith) in
    letters_more (map tree c.loop-k.leaves.items) (map tree c.put_letter.new.leaves.items) (list_of nodes)
    (drop k (list_of nodes)) (drop (k + 1) (list_of nodes)) (node_of (tree c.index.result.now.now)) e
    c.in_ok-put_letter.ensures c.loop-k.invariant

pub returns : goal.returns
returns c =
    let nodes = c.args.nodes.now in
    letters_done (map tree c.loop-k.leaves.items) (list_of nodes) (drop c.loop-k.k (list_of nodes))
    (drop_map_all (λ r. node_of (tree r.now)) nodes.list.items c.loop-k.k
    (omega (arith, c.loop-k-test.false, c.len-k-end.ensures, nodes.list.ok.0))) c.loop-k.invariant
    ∙ letters_tree nodes.back (tree nodes.re.now) (list_of nodes) c.requires
