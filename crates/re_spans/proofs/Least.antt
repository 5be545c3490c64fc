-- The least and the greatest of the places that pass.
use Rattle.std.proofs.Common.{◌≡◌, ℕ, zero, suc, ◌+◌, ◌-◌, ◌<◌, ◌≤◌, Bool, true, false, Option, Some, None, refl, sym}
use Rattle.std.proofs.Common.{subst, inl, inr, arith, is_some}
use Rattle.std.specs.Prelude.{IfSome}
use Rattle.std.proofs.lemmas.Bool.{cases_Bool, cases_eq, both_ways}
use Rattle.std.proofs.lemmas.Option.{IfSome_then}
use Rattle.re_spans.specs.Search.{least, greatest, has_place}

pub record IsLeast (p : ℕ → Bool) (low n k : ℕ) : Type 0 where
  pub above : low ≤ k
  pub below : k < low + n
  pub passes : p k ≡ true
  pub before : (m : ℕ) → low ≤ m → m < k → p m ≡ false

pub record IsGreatest (p : ℕ → Bool) (low n k : ℕ) : Type 0 where
  pub above : low ≤ k
  pub below : k < low + n
  pub passes : p k ≡ true
  pub behind : (m : ℕ) → k < m → m < low + n → p m ≡ false

pub least_is : (p : ℕ → Bool) (low n : ℕ) → IfSome (least p low n) (IsLeast p low n)
least_is p low zero = tt
least_is p low (suc n) = elim (cases_Bool (p low)) [
  | inl e ↦ rw e (record {
    above = omega arith;
    below = omega arith;
    passes = e;
    before = λ m a b. absurd (omega arith);
  })
  | inr e ↦ rw e (IfSome_then (least p (low + 1) n) (least_is p (low + 1) n) (λ k h. record {
    above = omega (arith, h.above);
    below = omega (arith, h.below);
    passes = h.passes;
    before = λ m a b. elim (cases_eq m low) [
      | inl same ↦ subst (λ x. p x ≡ false) (sym same) e
      | inr other ↦ h.before m (omega arith) b
    ];
  }))
]

pub least_finds : (p : ℕ → Bool) (low n m : ℕ) → low ≤ m → m < low + n → p m ≡ true → is_some (least p low n) ≡ true
least_finds p low zero m a b e = absurd (omega arith)
least_finds p low (suc n) m a b e = elim (cases_Bool (p low)) [
  | inl f ↦ rw f refl
  | inr f ↦ rw f (elim (cases_eq m low) [
    | inl same ↦ absurd (both_ways (p m) (subst (λ x. p x ≡ false) (sym same) f) e)
    | inr other ↦ least_finds p (low + 1) n m (omega arith) (omega arith) e
  ])
]

pub greatest_is : (p : ℕ → Bool) (low n : ℕ) → IfSome (greatest p low n) (IsGreatest p low n)
greatest_is p low zero = tt
greatest_is p low (suc n) = elim (cases_Bool (p (low + n))) [
  | inl e ↦ rw e (record {
    above = omega arith;
    below = omega arith;
    passes = e;
    behind = λ m a b. absurd (omega arith);
  })
  | inr e ↦ rw e (IfSome_then (greatest p low n) (greatest_is p low n) (λ k h. record {
    above = h.above;
    below = omega (arith, h.below);
    passes = h.passes;
    behind = λ m a b. elim (cases_eq m (low + n)) [
      | inl same ↦ subst (λ x. p x ≡ false) (sym same) e
      | inr other ↦ h.behind m a (omega arith)
    ];
  }))
]

pub greatest_finds : (p : ℕ → Bool) (low n m : ℕ) → low ≤ m → m < low + n
    → p m ≡ true → is_some (greatest p low n) ≡ true
greatest_finds p low zero m a b e = absurd (omega arith)
greatest_finds p low (suc n) m a b e = elim (cases_Bool (p (low + n))) [
  | inl f ↦ rw f refl
  | inr f ↦ rw f (elim (cases_eq m (low + n)) [
    | inl same ↦ absurd (both_ways (p m) (subst (λ x. p x ≡ false) (sym same) f) e)
    | inr other ↦ greatest_finds p low n m a (omega arith) e
  ])
]

some_from : {P : ℕ → Type 0} (o : Option ℕ) → is_some o ≡ true → IfSome o P → (k : ℕ) × P k
some_from None e h = absurd (both_ways false refl e)
some_from (Some k) e h = (k, h)

pub has_place_tells : (p : ℕ → Bool) (i j : ℕ) → has_place p i j ≡ true → (k : ℕ) × IsLeast p i (j + 1 - i) k
has_place_tells p i j e = some_from (least p i (j + 1 - i)) e (least_is p i (j + 1 - i))

pub has_place_from : (p : ℕ → Bool) (i j k : ℕ) → i ≤ k → k ≤ j → p k ≡ true → has_place p i j ≡ true
has_place_from p i j k a b e = least_finds p i (j + 1 - i) k a (omega arith) e
