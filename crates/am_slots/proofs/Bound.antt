-- Slots whose gates are tried one after another.
use Rattle.std.proofs.Common.{◌≡◌, inl, inr, ℕ, ◌+◌, ◌-◌, ◌^◌, ◌≤◌, Bool, true, false, if◌then◌else◌, List, [], ◌∷◌}
use Rattle.std.proofs.Common.{◌++◌, length, length-append, Option, refl, sym, ap, subst, ◌∙◌, arith}
use Rattle.std.specs.Prelude.{nat_lt}
use Rattle.std.proofs.lemmas.Bool.{ltb-false}
use Rattle.am_base.specs.Outside.{GateTold, one_more}
use Rattle.am_slots.specs.Binding.{AreWaiting, HaveNames, IsGiven}
use Rattle.am_slots.specs.Slots.{HasGiven, HasRisenBy, HasName, IsWaiting, unbound}
use Rattle.am_slots.specs.declared.slot.Slot.{Slot}
use Rattle.am_slots.specs.declared.slot.Slot.TheVariants as slot

pub risen_none : (a : ℕ) → HasRisenBy 0 a a
risen_none a = inl (omega arith)

pub risen_more : (n m a b c : ℕ) → HasRisenBy n a b → HasRisenBy m b c → b ≤ c → HasRisenBy (n + m) a c
risen_more n m a b c (inl p) (inl q) le = inl (omega (arith, p, q))
risen_more n m a b c (inl p) (inr q) le = inr q
risen_more n m a b c (inr p) q le = inr (omega (arith, p, le))

-- a count that has risen by one, where it could
one_given : (a : ℕ) → HasGiven 1 0 a (one_more a)
one_given a = by_test (nat_lt a (2 ^ 64 - 1)) refl
  where
    by_test : (t : Bool) → nat_lt a (2 ^ 64 - 1) ≡ t → HasGiven 1 0 a (one_more a)
    by_test true e = subst (λ (x : Bool). HasGiven 1 0 a (if x then a + 1 else a)) (sym e) (inl (omega arith))
    by_test false e = subst (λ (x : Bool). HasGiven 1 0 a (if x then a + 1 else a)) (sym e)
        (inr (omega (arith, ltb-false a (2 ^ 64 - 1) e)))

given_same : (a b : ℕ) → b ≡ one_more a → HasGiven 1 0 a b
given_same a b e = subst (λ (n : ℕ). HasGiven 1 0 a n) (sym e) (one_given a)

-- one call more was made
given_more : (n k m a b c : ℕ) → m ≤ 1 → HasGiven n k a b → HasGiven 1 m b c → HasGiven (n + 1) (k + m) a c
given_more n k m a b c one (inl p) (inl q) = inl (omega (arith, p, q))
given_more n k m a b c one p (inr q) = inr q
given_more n k m a b c one (inr p) (inl q) = inr (omega (arith, p, q, one))

module _ {G L S K : Type 0} where
  pub waiting-append : (told : G → GateTold) (xs ys : List (Slot G L S K)) → AreWaiting told xs → AreWaiting told ys
      → AreWaiting told (xs ++ ys)
  waiting-append told [] ys p q = q
  waiting-append told (x ∷ xs) ys p q = (p.0, waiting-append told xs ys p.1 q)

  pub waiting_front : (told : G → GateTold) (xs ys : List (Slot G L S K)) → AreWaiting told (xs ++ ys)
      → AreWaiting told xs × AreWaiting told ys
  waiting_front told [] ys p = (tt, p)
  waiting_front told (x ∷ xs) ys p = let h = waiting_front told xs ys p.1 in ((p.0, h.0), h.1)

  pub named-append : (told : G → GateTold) (path : List ℕ) (conn n : ℕ) (xs ys : List (Slot G L S K))
      → n ≡ conn + length xs → HaveNames told path conn xs → HaveNames told path n ys
      → HaveNames told path conn (xs ++ ys)
  named-append told path conn n [] ys e p q = let P : ℕ → Type 0 = λ k. HaveNames told path k ys in
      subst P (let h : n ≡ conn = omega (arith, e) in h) q
  named-append told path conn n (x ∷ xs) ys e p q = (
    p.0,
    named-append told path (conn + 1) n xs ys (omega (arith, e))
        p.1 q,
  )

  pub unbound-cons : (s : Slot G L S K) (slots : List (Slot G L S K))
      → unbound (s ∷ slots) ≡ unbound (s ∷ []) + unbound slots
  unbound-cons slot.Unbound slots = omega arith
  unbound-cons (slot.Bound gate) slots = omega arith
  unbound-cons (slot.Unlinked gate) slots = omega arith
  unbound-cons (slot.Unhalved gate link) slots = omega arith
  unbound-cons (slot.Undialled x refused) slots = omega arith
  unbound-cons (slot.Served x read wrote) slots = omega arith

  -- one slot more, by what its host gave
  slot_given : (s : Slot G L S K) (a b : ℕ) → IsGiven s a b → HasGiven 1 (unbound (s ∷ [])) a b
  slot_given slot.Unbound a b e = inl (omega (arith, e))
  slot_given (slot.Bound gate) a b e = given_same a b e
  slot_given (slot.Unlinked gate) a b e = given_same a b e
  slot_given (slot.Unhalved gate link) a b e = given_same a b e
  slot_given (slot.Undialled x refused) a b e = given_same a b e
  slot_given (slot.Served x read wrote) a b e = given_same a b e

  one_unbound : (s : Slot G L S K) → unbound (s ∷ []) ≤ 1
  one_unbound slot.Unbound = omega arith
  one_unbound (slot.Bound gate) = omega arith
  one_unbound (slot.Unlinked gate) = omega arith
  one_unbound (slot.Unhalved gate link) = omega arith
  one_unbound (slot.Undialled x refused) = omega arith
  one_unbound (slot.Served x read wrote) = omega arith

  pub unbound-append : (xs ys : List (Slot G L S K)) → unbound (xs ++ ys) ≡ unbound xs + unbound ys
  unbound-append [] ys = omega arith
  unbound-append (x ∷ xs) ys = omega (arith, unbound-cons x (xs ++ ys), unbound-cons x xs, unbound-append xs ys)

  -- one slot more was tried
  module _ (slots now : List (Slot G L S K)) (s : Slot G L S K) (e : now ≡ slots ++ s ∷ []) where
    pub count_next : length now ≡ length slots + 1
    count_next = omega (arith, ap length e, length-append slots (s ∷ []))

    pub waiting_next : (told : G → GateTold) → AreWaiting told slots → IsWaiting told s → AreWaiting told now
    waiting_next told p q =
        let P : List (Slot G L S K) → Type 0 = λ l. AreWaiting told l in
        subst P (sym e) (waiting-append told slots (s ∷ []) p (q, tt))

    pub named_next : (told : G → GateTold) (path : List ℕ) (n : ℕ) → length slots ≡ n → HaveNames told path 0 slots
        → HasName told path n s → HaveNames told path 0 now
    named_next told path n count p q =
        let P : List (Slot G L S K) → Type 0 = λ l. HaveNames told path 0 l in
        subst P (sym e) (named-append told path 0 n slots (s ∷ []) (omega (arith, count)) p (q, tt))

    pub risen_next : (a b c : ℕ) → HasRisenBy (unbound slots) a b → HasRisenBy (unbound (s ∷ [])) b c → b ≤ c
        → HasRisenBy (unbound now) a c
    risen_next a b c p q le =
        let P : ℕ → Type 0 = λ n. HasRisenBy n a c in
        subst P (sym (ap (λ (l : List (Slot G L S K)). unbound l) e ∙ unbound-append slots (s ∷ [])))
        (risen_more (unbound slots) (unbound (s ∷ [])) a b c p q le)

    pub given_next : (n a b c : ℕ) → HasGiven n (unbound slots) a b → IsGiven s b c → HasGiven (n + 1) (unbound now) a c
    given_next n a b c p q =
        let P : ℕ → Type 0 = λ k. HasGiven (n + 1) k a c in
        subst P (sym (ap (λ (l : List (Slot G L S K)). unbound l) e ∙ unbound-append slots (s ∷ [])))
        (given_more n (unbound slots) (unbound (s ∷ [])) a b c (one_unbound s) p (slot_given s b c q))
