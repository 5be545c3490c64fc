use Rattle.std.proofs.Common.{sym, ◌∙◌, arith}
use Rattle.re_syntax.specs.Tree.{tree}
use Rattle.re_spans.proofs.Around.{no_more_over, none_starts}
use Rattle.re_spans.proofs.over.first_over.Goals as goal
use Rattle.re_spans.proofs.over.first_over.Goals.{then-has+in_ok-j+in_default, else-has}

pub returns-clause-none : goal.returns-clause-none
returns-clause-none g c = λ i j o. c.loop-i.invariant i j (omega (
  arith,
  c.in_ok-i-end.ensures,
  c.loop-i-test.false,
  o.before,
)) o

pub loop-i-preserved : goal.loop-i-preserved
loop-i-preserved g c =
    let text = g.T.Letters.letters c.args.text.now in
    let r = tree c.args.re.now in
    no_more_over r text c.args.at c.loop-i.i c.loop-i.invariant
    (elim c.if-has.branch [
      | then-has+in_ok-j+in_default w ↦ rw w.in_default.is at w.in_ok-j.ensures.none
      | else-has w ↦ none_starts r text c.args.at c.in_ok-starts.starts c.in_ok-starts.ensures.starts c.loop-i.i
          (sym c.has.ensures ∙ w.if-has.false)
    ])
