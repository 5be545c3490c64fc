use Rattle.std.proofs.Common.{◌<◌, ◌∙◌, sym, arith}
use Rattle.re_syntax.specs.Tree.{tree}
use Rattle.re_syntax.specs.Match.{Matches, Repeats}
use Rattle.re_spans.proofs.Shaped.{again, one_plus}
use Rattle.re_spans.proofs.Ways.{Matches-on, joined_repeats}
use Rattle.re_spans.proofs.Splitting.{joins_past, walk_some}
use Rattle.re_spans.proofs.filling.plus_piece.Goals as goal

pub first_piece-requires-clause-joins : goal.first_piece-requires-clause-joins
first_piece-requires-clause-joins g c =
    let text = g.T.Letters.letters c.args.text.now in
    joins_past (Matches (tree c.args.a.now) text) (Repeats (Matches (tree c.args.a.now) text)) c.args.i c.args.j
    (Matches-on (tree c.args.a.now) text) c.requires.joins

pub unreachable-requires : goal.unreachable-requires
unreachable-requires g c =
    let walk = c.in_ok-last.ensures.walk in walk_some _ walk.0 _ _ _ _ walk.1 c.in-None.is

pub returns-then-is_repeated-clause-walk : goal.returns-then-is_repeated-clause-walk
returns-then-is_repeated-clause-walk g c =
    let t = g.T.Letters.letters c.args.text.now in
    let a = tree c.args.a.now in
    let l : c.args.i < c.args.j = omega (arith, c.if-i-j.true) in
    one_plus (Matches a t) c.args.i c.args.j l (again a t c.args.i c.args.j
    (sym c.is_repeated.ensures ∙ c.if-is_repeated.true) l (joined_repeats (Matches a t) (Matches-on a t) c.args.i
    c.args.j c.requires.joins))

pub returns-then-is_repeated-clause-piece : goal.returns-then-is_repeated-clause-piece
returns-then-is_repeated-clause-piece g c =
    let t = g.T.Letters.letters c.args.text.now in
    let a = tree c.args.a.now in
    let l : c.args.i < c.args.j = omega (arith, c.if-i-j.true) in (
      omega (arith, l),
      omega arith,
      again a t c.args.i c.args.j (sym c.is_repeated.ensures ∙ c.if-is_repeated.true) l
          (joined_repeats (Matches a t) (Matches-on a t) c.args.i c.args.j c.requires.joins),
    )
