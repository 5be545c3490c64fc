use Rattle.std.proofs.Common.{◌≡◌, ◌∙◌, ◌+◌, sym, ap, drop, arith}
use Rattle.re_syntax.specs.Tree.{tree}
use Rattle.re_syntax.specs.Nodes.{node_of}
use Rattle.re_machine.specs.Listed.{any_anchor, list_of}
use Rattle.re_machine.proofs.Dropping.{drop_map_at, drop_map_all}
use Rattle.re_machine.proofs.Listing.{anchor_tree, anchor_found, anchor_passed}
use Rattle.re_machine.proofs.nodes.Nodes.has_anchor.Goals as goal

pub returns-then-is_anchor : goal.returns-then-is_anchor
returns-then-is_anchor c =
    let nodes = c.args.self.now in
    let k = c.loop-k.k in
    let e = drop_map_at (λ r. node_of (tree r.now)) nodes.list.items k (k + 1) c.index.result.now
    (omega (arith, c.loop-k-test.true, c.len-k-end.ensures, nodes.list.ok.0)) c.index.ensures (omega arith) in
    anchor_found (list_of nodes) (drop k (list_of nodes)) (drop (k + 1) (list_of nodes))
    (node_of (tree c.index.result.now.now)) e (sym c.is_anchor.ensures ∙ c.if-is_anchor.true) c.loop-k.invariant
    ∙ anchor_tree nodes.back (tree nodes.re.now) (list_of nodes) c.requires

pub loop-k-preserved : goal.loop-k-preserved
loop-k-preserved c =
    let nodes = c.args.self.now in
    let k = c.loop-k.k in
    let e = drop_map_at (λ r. node_of (tree r.now)) nodes.list.items k (k + 1) c.index.result.now
    (omega (arith, c.loop-k-test.true, c.len-k-end.ensures, nodes.list.ok.0)) c.index.ensures (omega arith) in
    anchor_passed (list_of nodes) (drop k (list_of nodes)) (drop (k + 1) (list_of nodes))
    (node_of (tree c.index.result.now.now)) e (sym c.is_anchor.ensures ∙ c.if-is_anchor.false) c.loop-k.invariant

pub returns : goal.returns
returns c =
    let nodes = c.args.self.now in
    sym (ap any_anchor (drop_map_all (λ r. node_of (tree r.now)) nodes.list.items c.loop-k.k
    (omega (arith, c.loop-k-test.false, c.len-k-end.ensures, nodes.list.ok.0))))
    ∙ c.loop-k.invariant ∙ anchor_tree nodes.back (tree nodes.re.now) (list_of nodes) c.requires
