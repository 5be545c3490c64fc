use Rattle.std.proofs.Common.{◌≡◌, ◌<◌, ◌∙◌, ℕ, length, sym, subst, inl, inr, arith}
use Rattle.std.specs.Prelude.{false, slice_index}
use Rattle.std.proofs.lemmas.Bool.{cases_lt}
use Rattle.re_sets.specs.Tables.{meet}
use Rattle.re_machine.specs.Threads.{sets_of}
use Rattle.re_machine.proofs.Threading.{set_there}
use Rattle.re_machine.proofs.rows.ended.Goals as goal

pub loop-n-preserved : goal.loop-n-preserved
loop-n-preserved g c = λ m l.
    let bits = g.S.LetterSet.bits in
    let P : ℕ → Type 0 = λ z. meet g.S.LetterSet.SIZE z (bits c.args.last) ≡ false in
    let inside : c.loop-n.n < length c.args.rows.now = omega (arith, c.loop-n-test.true, c.loop-n.auto.n-end) in
    elim (cases_lt m c.loop-n.n) [
      | inl y ↦ c.loop-n.invariant m y
      | inr y ↦
          let s : m ≡ c.loop-n.n = omega (arith, l, y) in
          subst (λ (z : ℕ). P (slice_index (sets_of bits c.args.rows.now) z)) (sym s)
          (subst P (sym (set_there bits c.args.rows.now c.loop-n.n c.index-rows-n.result inside))
          (sym c.meets.ensures.is ∙ c.if-meets.false))
    ]
