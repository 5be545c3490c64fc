use Rattle.std.proofs.Common.{arith, sym, ◌∙◌, inr}
use Rattle.addr_syntax.proofs.Slices.{slice_none}
use Rattle.addr_syntax.proofs.Digits.{number_none, digits_more, ended_here}
use Rattle.addr_syntax.proofs.scan.number.Goals as goal

pub loop-at-init : goal.loop-at-init
loop-at-init c = rw (slice_none c.args.text.now c.args.from) (number_none 0)

pub loop-at-preserved : goal.loop-at-preserved
loop-at-preserved c =
    digits_more c.args.text.now c.args.from c.loop-at.at c.loop-at.n c.loop-at.auto.at c.loop-at-test.true
    c.loop-at.invariant ∙ sym c.in-Some.ensures

pub returns-in-None-clause-ok : goal.returns-in-None-clause-ok
returns-in-None-clause-ok c =
    (ended_here c.args.text.now c.args.from c.loop-at.at c.loop-at.n c.is_digit.result c.loop-at.auto.at
    (omega (arith, c.loop-at-test.true)) c.loop-at.invariant (inr (
      c.loop-at-test.true,
      c.is_digit.ensures,
      sym c.in-None.ensures,
    )) c.number_to.result c.number_to.ensures).0

pub returns-in-None-clause-err : goal.returns-in-None-clause-err
returns-in-None-clause-err c =
    (ended_here c.args.text.now c.args.from c.loop-at.at c.loop-at.n c.is_digit.result c.loop-at.auto.at
    (omega (arith, c.loop-at-test.true)) c.loop-at.invariant (inr (
      c.loop-at-test.true,
      c.is_digit.ensures,
      sym c.in-None.ensures,
    )) c.number_to.result c.number_to.ensures).1
