-- Which of the matches is taken.
use Rattle.std.proofs.Common.{◌≡◌, ℕ, ◌+◌, ◌-◌, ◌<◌, ◌≤◌, ◌==◌, true, false, List, Option, Some, None, refl, sym, ap}
use Rattle.std.proofs.Common.{subst, ◌∙◌, inl, inr, arith}
use Rattle.std.specs.Prelude.{IsTrue, ◌↔◌}
use Rattle.std.proofs.lemmas.Bool.{cases_lt, both_ways, eqb-true, eq-eqb}
use Rattle.re_syntax.specs.Tree.{Tree}
use Rattle.re_syntax.specs.Match.{Matches, IsSpan, IsFirst, IsLast}
use Rattle.re_spans.specs.Places.{Cells, has}
use Rattle.re_spans.specs.Reached.{AreReached}
use Rattle.re_spans.specs.declared.way.Way.TheVariants.{On, Back}
use Rattle.re_spans.specs.Choice.{is_at, IsAllowed, IsGreatestOf, HasNone, LeadsTo, UnlessNull, IsLongestFrom}
use Rattle.re_spans.specs.Choice.{IsLongestTo, HasStarts, HasEnds}
use Rattle.re_spans.proofs.Ways.{LeadsOn}
use Rattle.re_spans.proofs.Sets.{all_from, all_has, all_past}

-- ---- the place left out

at_is : (p : Option ℕ) (i : ℕ) → is_at p i ≡ true → p ≡ Some i
at_is None i e = absurd cc
at_is (Some q) i e = ap (λ (x : ℕ). Some x) (eqb-true q i e)

is_at_is : (p : Option ℕ) (i : ℕ) → p ≡ Some i → is_at p i ≡ true
is_at_is p i e = subst (λ (x : Option ℕ). is_at x i ≡ true) (sym e) (eq-eqb i i refl)

-- the null span at a place is left out where the place says so
allowed_on : (p : Option ℕ) (i d j : ℕ) → i + d ≡ j → (IsTrue (is_at p i) → d ≡ 0 → ⊥) ↔ IsAllowed p i j
allowed_on p i d j e = (
  λ f same h. f (is_at_is p i h) (omega (arith, e, same)),
  λ f s none. f (omega (arith, e, none)) (at_is p i s),
)

allowed_back : (p : Option ℕ) (i d j : ℕ) → i + d ≡ j → (IsTrue (is_at p j) → d ≡ 0 → ⊥) ↔ IsAllowed p i j
allowed_back p i d j e = (
  λ f same h. f (is_at_is p j (h ∙ ap (λ (x : ℕ). Some x) same)) (omega (arith, e, same)),
  λ f s none. let same : i ≡ j = omega (arith, e, none) in f same (at_is p j s ∙ ap (λ (x : ℕ). Some x) (sym same)),
)

-- ---- the longest match from a place on, or up to it

module _ (R : ℕ → ℕ → Type 0) (on : LeadsOn R) (p : Option ℕ) (low high : ℕ) (order : low ≤ high) where
  from_there : (k : ℕ) → k ≤ high → R low k → IsAllowed p low k → (k - low ≤ high - low)
      × LeadsTo On R low (UnlessNull (is_at p low)) (k - low)
  from_there k l r a =
      let same : low + (k - low) ≡ k = omega (arith, on low k r) in
      (omega (arith, l), (subst (λ (x : ℕ). R low x) (sym same) r, (allowed_on p low (k - low) k same).1 a))

  pub longest_from_is : (d : ℕ) → IsGreatestOf (LeadsTo On R low (UnlessNull (is_at p low))) (high - low) d
      → IsLongestFrom R low high p (low + d)
  longest_from_is d g = record {
    below = omega (arith, g.inside, order);
    span = g.has.0;
    allowed = (allowed_on p low d (low + d) refl).0 g.has.1;
    longest = λ k l r a. let x = from_there k l r a in omega (arith, g.most (k - low) x.0 x.1, on low k r);
  }

  pub longest_from_none : HasNone (LeadsTo On R low (UnlessNull (is_at p low))) (high - low) → (k : ℕ) → k ≤ high
      → R low k → IsAllowed p low k → ⊥
  longest_from_none none k l r a = let x = from_there k l r a in none (k - low) x.0 x.1

  to_there : (k : ℕ) → low ≤ k → R k high → IsAllowed p k high → (high - k ≤ high - low)
      × LeadsTo Back R high (UnlessNull (is_at p high)) (high - k)
  to_there k l r a =
      let same : high - (high - k) ≡ k = omega (arith, on k high r) in (
        omega (arith, l),
        (
          subst (λ (x : ℕ). R x high) (sym same) r,
          (allowed_back p k (high - k) high (omega (arith, on k high r))).1 a,
        ),
      )

  pub longest_to_is : (d : ℕ) → IsGreatestOf (LeadsTo Back R high (UnlessNull (is_at p high))) (high - low) d
      → IsLongestTo R low high p (high - d)
  longest_to_is d g = record {
    above = omega (arith, g.inside, order);
    span = g.has.0;
    allowed = (allowed_back p (high - d) d high (omega (arith, g.inside, order))).0 g.has.1;
    longest = λ k l r a. let x = to_there k l r a in omega (arith, g.most (high - k) x.0 x.1, on k high r);
  }

  pub longest_to_none : HasNone (LeadsTo Back R high (UnlessNull (is_at p high))) (high - low) → (k : ℕ) → low ≤ k
      → R k high → IsAllowed p k high → ⊥
  longest_to_none none k l r a = let x = to_there k l r a in none (high - k) x.0 x.1

-- the longest match up to a bound ends there where there is one that does
pub ends_there : (R : ℕ → ℕ → Type 0) (i j k : ℕ) → IsLongestFrom R i j None k → IsTrue (k == j) ↔ R i j
ends_there R i j k g = (
  λ h. subst (λ (x : ℕ). R i x) (eqb-true k j h) g.span,
  λ r. eq-eqb k j (omega (arith, g.below, g.longest j (omega arith) r (λ e h. absurd cc))),
)

pub no_end_there : (R : ℕ → ℕ → Type 0) (i j : ℕ) → ((k : ℕ) → k ≤ j → R i k → IsAllowed None i k → ⊥) → R i j → ⊥
no_end_there R i j none r = none j (omega arith) r (λ e h. absurd cc)

-- ---- where matches begin and end

pub all_starts : (R : ℕ → ℕ → Type 0) (low high : ℕ) (s : Cells) → LeadsOn R → low ≤ high
    → AreReached Back R (all_from low high) s → HasStarts R low high s
all_starts R low high s on order reached i j l p r =
    (reached i l (omega (arith, on i j r, p, all_past low high order))).1
    (j, all_has low high j (omega (arith, on i j r, l)) p, r)

pub all_ends : (R : ℕ → ℕ → Type 0) (low high : ℕ) (s : Cells) → LeadsOn R → low ≤ high
    → AreReached On R (all_from low high) s → HasEnds R low high s
all_ends R low high s on order reached i j l p r =
    (reached j (omega (arith, on i j r, l)) (omega (arith, p, all_past low high order))).1
    (i, all_has low high i l (omega (arith, on i j r, p)), r)

-- ---- the first and the last

module _ (r : Tree) (t : List ℕ) (low high : ℕ) (p : Option ℕ) where
  pub first_is : (i j : ℕ) → low ≤ i → IsLongestFrom (Matches r t) i high p j
      → ((k m : ℕ) → k < i → IsSpan r t low high p k m → ⊥) → IsFirst r t low high p (record { q0 = i; q1 = j })
  first_is i j above l none = record {
    span = record { above = above; below = l.below; matches = l.span; allowed = l.allowed };
    least = λ k m s. elim (cases_lt k i) [ inl x ↦ absurd (none k m x s) | inr y ↦ y ];
    longest = λ m s. l.longest m s.below s.matches s.allowed;
  }

  pub last_is : (i j : ℕ) → j ≤ high → IsLongestTo (Matches r t) low j p i
      → ((k m : ℕ) → j < m → IsSpan r t low high p k m → ⊥) → IsLast r t low high p (record { q0 = i; q1 = j })
  last_is i j below l none = record {
    span = record { above = l.above; below = below; matches = l.span; allowed = l.allowed };
    greatest = λ k m s. elim (cases_lt j m) [ inl x ↦ absurd (none k m x s) | inr y ↦ y ];
    longest = λ k s. l.longest k s.above s.matches s.allowed;
  }

  -- one place more that begins no span
  pub none_from : (i : ℕ) → ((k m : ℕ) → k < i → IsSpan r t low high p k m → ⊥)
      → ((m : ℕ) → IsSpan r t low high p i m → ⊥) → (k m : ℕ) → k < i + 1 → IsSpan r t low high p k m → ⊥
  none_from i before here k m l s = elim (cases_lt k i) [
    | inl x ↦ before k m x s
    | inr y ↦ let e : k ≡ i = omega (arith, l, y) in here m (subst (λ (x : ℕ). IsSpan r t low high p x m) e s)
  ]

  pub no_start : (starts : Cells) → HasStarts (Matches r t) low high starts → (i : ℕ) → has starts i ≡ false → (m : ℕ)
      → IsSpan r t low high p i m → ⊥
  no_start starts all i none m s = both_ways (has starts i) none (all i m s.above s.below s.matches)

  pub none_here : (i : ℕ) → ((j : ℕ) → j ≤ high → Matches r t i j → IsAllowed p i j → ⊥) → (m : ℕ)
      → IsSpan r t low high p i m → ⊥
  none_here i none m s = none m s.below s.matches s.allowed

  -- one place less that ends no span
  pub none_to : (n : ℕ) → n ≤ high → ((k m : ℕ) → high < m + n → IsSpan r t low high p k m → ⊥)
      → ((k : ℕ) → IsSpan r t low high p k (high - n) → ⊥) → (k m : ℕ) → high < m + (n + 1) → IsSpan r t low high p k m
      → ⊥
  none_to n inside after here k m l s = elim (cases_lt high (m + n)) [
    | inl x ↦ after k m x s
    | inr y ↦ let e : m ≡ high - n = omega (arith, l, y) in here k (subst (λ (x : ℕ). IsSpan r t low high p k x) e s)
  ]

  pub no_end : (ends : Cells) → HasEnds (Matches r t) low high ends → (j : ℕ) → has ends j ≡ false → (k : ℕ)
      → IsSpan r t low high p k j → ⊥
  no_end ends all j none k s = both_ways (has ends j) none (all k j s.above s.below s.matches)

  pub none_there : (j : ℕ) → ((i : ℕ) → low ≤ i → Matches r t i j → IsAllowed p i j → ⊥) → (k : ℕ)
      → IsSpan r t low high p k j → ⊥
  none_there j none k s = none k s.above s.matches s.allowed
