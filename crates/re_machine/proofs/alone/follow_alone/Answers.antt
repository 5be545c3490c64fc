use Rattle.std.proofs.Common.{◌≡◌, ◌<◌, ◌∙◌, ℕ, sym, subst, refl, arith}
use Rattle.re_sets.specs.Searches.{Followed}
use Rattle.re_machine.specs.Ways.{reading}
use Rattle.re_machine.specs.Whole.{table_of}
use Rattle.re_machine.proofs.Stepping.{follow_known, count_read}
use Rattle.re_machine.proofs.alone.follow_alone.Goals as goal

pub loop-at-preserved : goal.loop-at-preserved
loop-at-preserved g c = λ r no_null low start is known.
    let bits = g.S.LetterSet.bits in
    let t = table_of bits g.S.LetterSet.SIZE c.args.tables.now in
    let text = g.T.Letters.letters c.args.text.now in
    let w = reading c.args.way text in
    let at : ℕ = c.loop-at.at in
    let inside : at < w.count = omega (arith, count_read c.args.way text, c.loop-at-test.true, c.requires.within) in
    follow_known bits r t w no_null low is at start (bits c.loop-at.set) (bits c.both-set.result)
    c.context-context.result.now (bits c.takes-takes.result) inside c.context-context.ensures
    (rw c.rune_at.ensures at c.takes-takes.ensures) (sym c.meets.ensures.is ∙ c.if-meets.false)
    (rw (c.both-set.ensures, c.join.ensures, c.as_slice.ensures.value) refl)
    (c.loop-at.invariant r no_null low start is known)

pub returns-then-meets-2-clause-known : goal.returns-then-meets-2-clause-known
returns-then-meets-2-clause-known g c = λ r no_null low start is known.
    let bits = g.S.LetterSet.bits in
    let w = reading c.args.way (g.T.Letters.letters c.args.text.now) in
    let e : c.loop-at.at ≡ c.args.range.q1 = omega (
      arith,
      c.loop-at-test.false,
      c.loop-at.auto.at-end c.requires.order,
    ) in
    subst (λ (z : ℕ). Followed r w no_null low z start (bits c.loop-at.set)) e
    (c.loop-at.invariant r no_null low start is known)
