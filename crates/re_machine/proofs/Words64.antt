-- One machine word as a set.
use Rattle.std.proofs.Common.{◌≡◌, ℕ, ◌*◌, ◌%◌, ◌^◌, ◌<◌, ◌==◌, ◌&&◌, Bool, true, false, not, refl, sym, subst, ◌∙◌}
use Rattle.std.proofs.Common.{inl, inr, arith, w64}
use Rattle.std.specs.Prelude.{IsTrue, bit_and}
use Rattle.std.specs.Int.{bit_at, bit_not, trailing_zeros}
use Rattle.std.proofs.lemmas.Bool.{cases_eq, cases_lt, cases_Bool}
use Rattle.std.proofs.lemmas.Bool.Decides.{nat_tests}
use Rattle.std.proofs.lemmas.Nat.Bits.{bit_at-trailing_zeros, bit_at_above, bit_at_clear_same}
use Rattle.re_sets.specs.Words.{on}
use Rattle.re_sets.specs.Tables.{meet}
use Rattle.re_sets.proofs.Going.{both, and_true}
use Rattle.re_sets.proofs.Numbering.{below_to, below_from}
use Rattle.re_sets.proofs.Wording.{on_is, on_zero, cleared}
use Rattle.re_sets.proofs.Telling.{on_and, on_and_from}
use Rattle.re_machine.specs.Sets.{HasOne, IsWithout}

pub has_one : (word : ℕ) → word < 2 ^ 64 → (word ≡ 0 → ⊥) → HasOne 64 word
has_one word small o =
    let k : ℕ = trailing_zeros w64 word in
    let lowest = bit_at-trailing_zeros w64 word (omega (arith, o)) small in
    (k, lowest.0, (on_is word k).1 lowest.1)

pub without_is : (word k : ℕ) → word < 2 ^ 64 → k < 64 → IsTrue (on word k)
    → IsWithout word k (bit_and word (bit_not w64 (1 * 2 ^ k % 2 ^ 64)))
without_is word k small within has =
    let left : ℕ = bit_and word (bit_not w64 (1 * 2 ^ k % 2 ^ 64)) in
    let c = cleared word k within ((on_is word k).0 has) in
    let gone : bit_at left k ≡ 0 = bit_at_clear_same w64 word k within in
    record {
      less = c.0;
      others = λ m. (
        λ h. elim (cases_lt m 64) [
          | inl l ↦ elim (cases_eq m k) [
            | inl e ↦ absurd (let s : bit_at left k ≡ 1 = subst (λ (z : ℕ). bit_at left z ≡ 1) e ((on_is left m).0 h) in
                omega (arith, s, gone))
            | inr o ↦ ((on_is word m).1 (omega (arith, c.1 m l o, (on_is left m).0 h)), o)
          ]
          | inr g ↦ absurd (omega (arith, (on_is left m).0 h, bit_at_above left 64 m (omega (arith, c.0, small)) g))
        ],
        λ h. elim (cases_lt m 64) [
          | inl l ↦ (on_is left m).1 (omega (arith, c.1 m l h.1, (on_is word m).0 h.0))
          | inr g ↦ absurd (omega (arith, (on_is word m).0 h.0, bit_at_above word 64 m small g))
        ],
      );
    }

-- whether two sets have a letter in common
pub meets_is : (size x y z : ℕ) (n : Bool) → z ≡ bit_and x y → n ≡ (z == 0) → (n ≡ false → HasOne size z)
    → not n ≡ meet size x y
meets_is size x y z true e t f = elim (cases_Bool (meet size x y)) [
  | inl m ↦ absurd (
      let p = below_from (λ m. on x m && on y m) size m in
      let q = both (on x p.0) (on y p.0) p.2 in
      let zero : z ≡ 0 = grind (arith, nat_tests, t) in
      on_zero p.0 (subst (λ (w : ℕ). IsTrue (on w p.0)) (sym e ∙ zero) (on_and x y p.0 q.0 q.1)))
  | inr m ↦ sym m
]
meets_is size x y z false e t f =
    let p = f refl in
    let q = on_and_from x y p.0 (subst (λ (w : ℕ). IsTrue (on w p.0)) e p.2) in
    sym (below_to (λ m. on x m && on y m) size p.0 p.1 (and_true (on x p.0) (on y p.0) q.0 q.1))
