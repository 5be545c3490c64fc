use Rattle.std.proofs.Common.{◌+◌, arith}
use Rattle.re_syntax.specs.Tree.{tree}
use Rattle.re_syntax.specs.Match.{Matches}
use Rattle.re_spans.proofs.Ways.{Matches-on}
use Rattle.re_spans.proofs.Sets.{one_back}
use Rattle.re_spans.proofs.Splitting.{split_some, split_none, joins_past, ahead_zero}
use Rattle.re_spans.proofs.filling.first_part.Goals as goal

pub returns : goal.returns
returns g c =
    let text = g.T.Letters.letters c.args.text.now in
    let R = Matches (tree c.args.a.now) text in
    let S = Matches (tree c.args.b.now) text in
    let tells = one_back S c.args.i c.args.j c.args.j c.in_ok-starts.starts c.requires.order (omega arith)
    (rw c.in_ok-end.ensures at c.in_ok-starts.ensures.places) in
    let s = split_some R S c.args.i c.args.j c.args.i c.in_ok-starts.starts (Matches-on (tree c.args.a.now) text)
    (Matches-on (tree c.args.b.now) text) c.requires.order tells c.in-Some.turns
    (rw c.in-Some.is at c.in_ok-found.ensures.some) in
    (s.0, s.1, ahead_zero R S c.args.i c.args.j (c.args.i + c.in-Some.turns) s.2)

pub unreachable-requires : goal.unreachable-requires
unreachable-requires g c =
    let text = g.T.Letters.letters c.args.text.now in
    let R = Matches (tree c.args.a.now) text in
    let S = Matches (tree c.args.b.now) text in
    let tells = one_back S c.args.i c.args.j c.args.j c.in_ok-starts.starts c.requires.order (omega arith)
    (rw c.in_ok-end.ensures at c.in_ok-starts.ensures.places) in
    split_none R S c.args.i c.args.j c.args.i c.in_ok-starts.starts (Matches-on (tree c.args.a.now) text)
    (Matches-on (tree c.args.b.now) text) c.requires.order tells (rw c.in-None.is at c.in_ok-found.ensures.none)
    (joins_past R S c.args.i c.args.j (Matches-on (tree c.args.a.now) text) c.requires.joins)
