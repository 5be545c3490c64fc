use Rattle.std.proofs.Common.{[]}
use Rattle.re_syntax.specs.Tree.{tree}
use Rattle.re_spans.proofs.Making.{made_of}
use Rattle.re_spans.proofs.marks.fresh.Goals as goal

pub nodes-init : goal.nodes-init
nodes-init c = rw (c.new-made.ensures.items, c.in_ok-left.ensures)
    (made_of c.args.way c.args.here (tree c.args.re.now) [])
