use Rattle.re_syntax.specs.Tree.{tree}
use Rattle.re_syntax.specs.Match.{Matches, Repeats}
use Rattle.re_spans.proofs.Ways.{Matches-on, Repeats-on}
use Rattle.re_spans.proofs.Splitting.{split_some, split_none}
use Rattle.re_spans.proofs.filling.first_piece.Goals as goal

pub returns : goal.returns
returns g c =
    let text = g.T.Letters.letters c.args.text.now in
    let R = Matches (tree c.args.a.now) text in
    split_some R (Repeats R) c.args.i c.args.j c.args.low c.args.rests.now (Matches-on (tree c.args.a.now) text)
    (Repeats-on R) c.requires.order c.requires.rests c.in-Some.turns (rw c.in-Some.is at c.in_ok-found.ensures.some)

pub unreachable-requires : goal.unreachable-requires
unreachable-requires g c =
    let text = g.T.Letters.letters c.args.text.now in
    let R = Matches (tree c.args.a.now) text in
    split_none R (Repeats R) c.args.i c.args.j c.args.low c.args.rests.now (Matches-on (tree c.args.a.now) text)
    (Repeats-on R) c.requires.order c.requires.rests (rw c.in-None.is at c.in_ok-found.ensures.none)
    c.requires.joins
