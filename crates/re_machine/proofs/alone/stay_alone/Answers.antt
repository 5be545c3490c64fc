use Rattle.std.proofs.Common.{◌≡◌, ◌<◌, ℕ, subst, arith}
use Rattle.re_sets.specs.Searches.{Known}
use Rattle.re_machine.specs.Ways.{reading}
use Rattle.re_machine.specs.Whole.{table_of}
use Rattle.re_machine.specs.Threads.{one_row}
use Rattle.re_machine.proofs.Stepping.{lone_known, count_read}
use Rattle.re_machine.proofs.alone.stay_alone.Goals as goal

pub loop-at-preserved : goal.loop-at-preserved
loop-at-preserved g c = λ r no_null low start best is above idle known.
    let bits = g.S.LetterSet.bits in
    let t = table_of bits g.S.LetterSet.SIZE c.args.tables.now in
    let text = g.T.Letters.letters c.args.text.now in
    let w = reading c.args.way text in
    let at : ℕ = c.loop-at.at in
    let inside : at < w.count = omega (arith, count_read c.args.way text, c.loop-at-test.true, c.requires.within) in
    lone_known bits r t w no_null low is at start (bits c.loop-at.set) (bits c.in-Some.next)
    c.context-context.result.now (bits c.takes-takes.result) (omega (arith, above, c.loop-at.auto.at)) inside
    c.context-context.ensures (rw c.rune_at.ensures at c.takes-takes.ensures) best c.args.lone.is_idle idle
    c.in-Some.ensures (c.loop-at.invariant r no_null low start best is above idle known)

pub returns-clause-known : goal.returns-clause-known
returns-clause-known g c = λ r no_null low start best is above idle known.
    let bits = g.S.LetterSet.bits in
    let w = reading c.args.way (g.T.Letters.letters c.args.text.now) in
    let e : c.loop-at.at ≡ c.args.range.q1 = omega (
      arith,
      c.loop-at-test.false,
      c.loop-at.auto.at-end c.requires.order,
    ) in
    subst (λ (z : ℕ). Known r w no_null low z (one_row start (bits c.loop-at.set)) best) e
    (c.loop-at.invariant r no_null low start best is above idle known)
