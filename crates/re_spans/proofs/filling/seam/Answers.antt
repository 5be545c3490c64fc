use Rattle.std.proofs.Common.{arith}
use Rattle.re_syntax.specs.Tree.{tree}
use Rattle.re_syntax.specs.Match.{Matches}
use Rattle.re_spans.proofs.Ways.{Matches-on}
use Rattle.re_spans.proofs.Shaped.{first_long, second_long}
use Rattle.re_spans.proofs.filling.seam.Goals as goal

pub overflow_add-result : goal.overflow_add-result
overflow_add-result g c =
    let t = g.T.Letters.letters c.args.text.now in
    let s = first_long (Matches (tree c.args.a.now) t) (Matches (tree c.args.b.now) t) c.args.i c.args.j c.in-Some.count
    (Matches-on (tree c.args.b.now) t) (λ k m. c.in-Some.ensures t c.args.i k m) c.requires.joins in
    omega (arith, s.1, c.ranges.j.fits)

pub returns-in-Some : goal.returns-in-Some
returns-in-Some g c =
    let t = g.T.Letters.letters c.args.text.now in
    first_long (Matches (tree c.args.a.now) t) (Matches (tree c.args.b.now) t) c.args.i c.args.j c.in-Some.count
    (Matches-on (tree c.args.b.now) t) (λ k m. c.in-Some.ensures t c.args.i k m) c.requires.joins

pub returns-in-Some-leaf_length : goal.returns-in-Some-leaf_length
returns-in-Some-leaf_length g c =
    let t = g.T.Letters.letters c.args.text.now in
    second_long (Matches (tree c.args.a.now) t) (Matches (tree c.args.b.now) t) c.args.i c.args.j
    c.in-Some-leaf_length.count (Matches-on (tree c.args.a.now) t)
    (λ k m. c.in-Some-leaf_length.ensures t k c.args.j m) c.requires.joins
