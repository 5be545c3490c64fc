-- Bits of words.
use Rattle.std.proofs.Common.{◌≡◌, ℕ, ◌+◌, ◌*◌, ◌/◌, ◌%◌, ◌^◌, ◌<◌, ◌≤◌, ◌==◌, ◌||◌, ◌&&◌, ◌⊎◌, Bool, true, false, List}
use Rattle.std.proofs.Common.{refl, ap, inl, inr, sym, subst, arith, w64}
use Rattle.std.proofs.lemmas.Bool.{cases_eq, cases_Bool}
use Rattle.std.proofs.lemmas.Bool.Decides.{nat_tests}
use Rattle.std.proofs.lemmas.Nat.{and_le_l}
use Rattle.std.proofs.lemmas.Nat.Bits.{bit_at_or, bit_at_and, bit_at-zero, bit_at-lt, bit_at_clear_same}
use Rattle.std.proofs.lemmas.Nat.Bits.{bit_at_clear_other, bit_at-trailing_zeros}
use Rattle.std.specs.Prelude.{IsTrue, bit_and, bit_or, ◌↔◌}
use Rattle.std.specs.Int.{bit_at, bit_not, trailing_zeros}
use Rattle.re_sets.specs.Words.{on}

pub on_is : (a n : ℕ) → IsTrue (on a n) ↔ (bit_at a n ≡ 1)
on_is a n = (λ h. grind (arith, nat_tests, h), λ h. grind (arith, nat_tests, h))

pub on_or_left : (a b n : ℕ) → IsTrue (on a n) → IsTrue (on (bit_or a b) n)
on_or_left a b n h = (on_is (bit_or a b) n).1 (omega (arith, bit_at_or a b n, bit_at-lt b n, (on_is a n).0 h))

pub on_or_right : (a b n : ℕ) → IsTrue (on b n) → IsTrue (on (bit_or a b) n)
on_or_right a b n h = (on_is (bit_or a b) n).1 (omega (arith, bit_at_or a b n, bit_at-lt a n, (on_is b n).0 h))

pub on_or_cases : (a b n : ℕ) → IsTrue (on (bit_or a b) n) → IsTrue (on a n) ⊎ IsTrue (on b n)
on_or_cases a b n h = elim (cases_eq (bit_at a n) 1) [
  | inl e ↦ inl ((on_is a n).1 e)
  | inr o ↦ inr ((on_is b n).1 (omega (
    arith,
    bit_at_or a b n,
    bit_at-lt a n,
    bit_at-lt b n,
    o,
    (on_is (bit_or a b) n).0 h,
  )))
]

pub on_zero : (n : ℕ) → IsTrue (on 0 n) → ⊥
on_zero n h = omega (arith, (on_is 0 n).0 h, bit_at-zero n)

-- clearing a bit that is set makes the word smaller, and leaves the other bits
pub cleared : (word k : ℕ) → k < 64 → bit_at word k ≡ 1
    → let left = bit_and word (bit_not w64 (1 * 2 ^ k % 2 ^ 64)) in
    (left < word) × ((j : ℕ) → j < 64 → (j ≡ k → ⊥) → bit_at left j ≡ bit_at word j)
cleared word k within set =
    let left : ℕ = bit_and word (bit_not w64 (1 * 2 ^ k % 2 ^ 64)) in
    let gone : bit_at left k ≡ 0 = bit_at_clear_same w64 word k within in (
      elim (cases_eq left word) [
        | inl same ↦ absurd (let both : bit_at left k ≡ bit_at word k = ap (λ x. bit_at x k) same in omega arith)
        | inr other ↦ omega (arith, and_le_l word (bit_not w64 (1 * 2 ^ k % 2 ^ 64)))
      ],
      λ j small other. bit_at_clear_other w64 word k within j small other,
    )
