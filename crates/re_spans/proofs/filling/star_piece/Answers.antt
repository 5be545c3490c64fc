use Rattle.std.proofs.Common.{◌<◌, ◌∙◌, sym, arith}
use Rattle.re_syntax.specs.Tree.{tree}
use Rattle.re_syntax.specs.Match.{Matches}
use Rattle.re_spans.proofs.Shaped.{again, one_walk}
use Rattle.re_spans.proofs.filling.star_piece.Goals as goal

pub returns-then-is_repeated-clause-walk : goal.returns-then-is_repeated-clause-walk
returns-then-is_repeated-clause-walk g c =
    let t = g.T.Letters.letters c.args.text.now in
    let a = tree c.args.a.now in
    let l : c.args.i < c.args.j = omega (arith, c.if-i-j.true) in
    one_walk (Matches a t) c.args.i c.args.j l (again a t c.args.i c.args.j
    (sym c.is_repeated.ensures ∙ c.if-is_repeated.true) l c.requires.repeats)

pub returns-then-is_repeated-clause-piece : goal.returns-then-is_repeated-clause-piece
returns-then-is_repeated-clause-piece g c =
    let t = g.T.Letters.letters c.args.text.now in
    let a = tree c.args.a.now in
    let l : c.args.i < c.args.j = omega (arith, c.if-i-j.true) in (
      omega (arith, l),
      omega arith,
      again a t c.args.i c.args.j (sym c.is_repeated.ensures ∙ c.if-is_repeated.true) l c.requires.repeats,
    )
