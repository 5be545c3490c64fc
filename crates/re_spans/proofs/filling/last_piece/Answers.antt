use Rattle.std.proofs.Common.{◌≡◌, zero, suc, refl, inr, arith}
use Rattle.re_syntax.specs.Tree.{tree}
use Rattle.re_syntax.specs.Match.{Matches, Repeats}
use Rattle.re_spans.proofs.Splitting.{first_of_pieces, later_starts}
use Rattle.re_spans.proofs.filling.last_piece.Goals as goal

pub first_piece-requires-clause-joins : goal.first_piece-requires-clause-joins
first_piece-requires-clause-joins g c =
    first_of_pieces (Matches (tree c.args.a.now) (g.T.Letters.letters c.args.text.now)) c.loop-at.at c.args.j
    c.loop-at.invariant.repeats (omega arith)

pub first_piece-requires-clause-rests : goal.first_piece-requires-clause-rests
first_piece-requires-clause-rests g c =
    later_starts (Repeats (Matches (tree c.args.a.now) (g.T.Letters.letters c.args.text.now))) c.args.i c.loop-at.at
    c.args.j c.args.rests.now c.loop-at.invariant.above c.requires.rests

pub loop-at-preserved : goal.loop-at-preserved
loop-at-preserved g c =
    let next = c.in_ok-k.ensures in
    record {
      above = omega (arith, c.loop-at.invariant.above, next.0);
      inside = next.1;
      repeats = next.2.1;
      walk = λ n out w. c.loop-at.invariant.walk (suc n) out (_, next.2, w);
      piece = inr (next.0, next.1, next.2.0.1);
    }

pub returns-clause-walk : goal.returns-clause-walk
returns-clause-walk g c =
    let e : c.loop-at.at ≡ c.args.j = omega arith in c.loop-at.invariant.walk zero c.loop-at.last (e, refl)
