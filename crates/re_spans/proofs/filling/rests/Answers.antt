use Rattle.std.proofs.Common.{arith}
use Rattle.re_syntax.specs.Tree.{tree}
use Rattle.re_syntax.specs.Match.{Matches, Repeats}
use Rattle.re_spans.proofs.Sets.{one_back}
use Rattle.re_spans.proofs.filling.rests.Goals as goal

pub returns-clause-starts : goal.returns-clause-starts
returns-clause-starts g c =
    one_back (Repeats (Matches (tree c.args.a.now) (g.T.Letters.letters c.args.text.now))) c.args.i c.args.j c.args.j
    c.in_ok-set.set c.requires.order (omega arith) (rw c.in_ok-end.ensures at c.in_ok-set.ensures.places)
