-- The marks of leaves.
use Rattle.std.proofs.Common.{◌≡◌, ℕ, ◌<◌, ◌+◌, ◌-◌, ◌==◌, ◌&&◌, ◌||◌, Bool, true, false, List, length, get_or, refl}
use Rattle.std.proofs.Common.{sym, subst, ◌∙◌, arith}
use Rattle.std.specs.Prelude.{IsTrue, ◌↔◌, nat_lt, slice_index}
use Rattle.std.proofs.lemmas.Bool.{eqb-true, eq-eqb}
use Rattle.std.proofs.lemmas.Bool.Decides.{nat_tests}
use Rattle.re_syntax.specs.Match.{one_rune, line_start, line_end}
use Rattle.re_spans.specs.Turns.{lower}
use Rattle.re_spans.specs.Leaves.{here_at}
use Rattle.re_spans.specs.Reached.{Along}
use Rattle.re_spans.specs.declared.way.Way.{Way}
use Rattle.re_spans.specs.declared.way.Way.TheVariants.{On, Back}
use Rattle.re_spans.proofs.Orders.{Before, Next, next_before, never}
use Rattle.re_spans.proofs.Marking.{Led, MarkIs, both, and_true}

-- a relation of null spans leads nowhere
no_led : (way : Way) (A : ℕ → ℕ → Type 0) (E : ℕ → Type 0) (n : ℕ) → ((k : ℕ) → A k n → k ≡ n) → Led way A E n → ⊥
no_led way A E n null p = never way p.0 n p.1 (null p.0 p.3)

lt_true : (i n : ℕ) → i < n → nat_lt i n ≡ true
lt_true i n l = grind (arith, nat_tests)

module _ (t : List ℕ) (test : ℕ → Bool) where
  abbrev pub Runes : ℕ → ℕ → Type 0
  Runes i j = IsTrue (one_rune test t i j)

  one_there : (i : ℕ) → i < length t → IsTrue (test (slice_index t i)) → Runes i (i + 1)
  one_there i l h =
      and_true (nat_lt i (length t) && (i + 1 == i + 1)) (test (slice_index t i))
      (and_true (nat_lt i (length t)) (i + 1 == i + 1) (lt_true i (length t) l) (eq-eqb (i + 1) (i + 1) refl)) h

  one_here : (i j : ℕ) → Runes i j → (j ≡ i + 1) × IsTrue (test (slice_index t i))
  one_here i j h =
      let x = both (nat_lt i (length t) && (j == i + 1)) (test (slice_index t i)) h in
      (eqb-true j (i + 1) (both (nat_lt i (length t)) (j == i + 1) x.0).1, x.1)

  rune_step : (way : Way) (i n : ℕ) → Next way i n → lower way i n < length t
      → IsTrue (test (slice_index t (lower way i n))) → Along way Runes i n
  rune_step On i n e l h = subst (λ (x : ℕ). Runes i x) (sym e) (one_there i l h)
  rune_step Back i n e l h = subst (λ (x : ℕ). Runes n x) (sym e) (one_there n l h)

  rune_from : (way : Way) (k i n : ℕ) → Next way i n → Along way Runes k n → (k ≡ i)
      × IsTrue (test (slice_index t (lower way i n)))
  rune_from On k i n e p =
      let x = one_here k n p in
      let same : k ≡ i = omega (arith, x.0) in
      (same, subst (λ (x : ℕ). IsTrue (test (slice_index t x))) same x.1)
  rune_from Back k i n e p = let x = one_here n k p in (omega (arith, x.0), x.1)

  no_null : (way : Way) (n : ℕ) → Along way Runes n n → ⊥
  no_null On n p = absurd (omega (arith, (one_here n n p).0))
  no_null Back n p = absurd (omega (arith, (one_here n n p).0))

  pub rune_is : (way : Way) (E : ℕ → Type 0) (i n : ℕ) (m : Bool) → Next way i n → lower way i n < length t
      → IsTrue m ↔ E i → MarkIs way (Along way Runes) E n (record {
        led = m && test (slice_index t (lower way i n));
        null = false;
      })
  rune_is way E i n m next l e = record {
    is_led = (
      λ h. let x = both m (test (slice_index t (lower way i n))) h in
          (i, next_before way i n next, e.0 x.0, rune_step way i n next l x.1),
      λ p.
          let x = rune_from way p.0 i n next p.3 in
          and_true m (test (slice_index t (lower way i n))) (e.1 (subst E x.0 p.2)) x.1,
    );
    is_null = (λ h. absurd cc, λ p. absurd (no_null way n p));
  }

  pub rune_fresh : (way : Way) (E : ℕ → Type 0) (n : ℕ) → ((k : ℕ) → Before way k n → E k → ⊥)
      → MarkIs way (Along way Runes) E n (record { led = false; null = false })
  rune_fresh way E n none = record {
    is_led = (λ h. absurd cc, λ p. absurd (none p.0 p.1 p.2));
    is_null = (λ h. absurd cc, λ p. absurd (no_null way n p));
  }

-- ---- null texts

module _ (null : ℕ → ℕ → Bool) (here : ℕ → Bool) (only : (i j : ℕ) → IsTrue (null i j) → j ≡ i)
    (at_n : (i : ℕ) → IsTrue (here i) ↔ IsTrue (null i i)) where
  abbrev pub Nulls : ℕ → ℕ → Type 0
  Nulls i j = IsTrue (null i j)

  stays : (way : Way) (k n : ℕ) → Along way Nulls k n → k ≡ n
  stays On k n p = sym (only k n p)
  stays Back k n p = only n k p

  here_is : (way : Way) (n : ℕ) → IsTrue (here n) ↔ Along way Nulls n n
  here_is On n = at_n n
  here_is Back n = at_n n

  pub null_is : (way : Way) (E : ℕ → Type 0) (n : ℕ) (m : Bool) → MarkIs way (Along way Nulls) E n
      (record { led = m && false; null = here n })
  null_is way E n m = record {
    is_led = (
      λ h. absurd (cc ((both m false h).1)),
      λ p. absurd (no_led way (Along way Nulls) E n
          (λ k a. stays way k n a) p),
    );
    is_null = here_is way n;
  }

  pub null_fresh : (way : Way) (E : ℕ → Type 0) (n : ℕ) → MarkIs way (Along way Nulls) E n
      (record { led = false; null = here n })
  null_fresh way E n = record {
    is_led = (λ h. absurd cc, λ p. absurd (no_led way (Along way Nulls) E n (λ k a. stays way k n a) p));
    is_null = here_is way n;
  }

three : (x a b : Bool) → (x && a && b) ≡ (x && (a && b))
three true a b = refl
three false a b = refl

pub start_only : (t : List ℕ) (i j : ℕ) → IsTrue (line_start t i j) → j ≡ i
start_only t i j h =
    let a = nat_lt i (length t) in
    let b = (i == 0) || (get_or t (i - 1) 0 == 10) in
    eqb-true j i (both (j == i) (a && b) (sym (three (j == i) a b) ∙ h)).0

pub start_here : (t : List ℕ) (i : ℕ) → IsTrue ((here_at t i).starts) ↔ IsTrue (line_start t i i)
start_here t i =
    let a = nat_lt i (length t) in
    let b = (i == 0) || (get_or t (i - 1) 0 == 10) in (
      λ h. three (i == i) a b ∙ and_true (i == i) (a && b) (eq-eqb i i refl) h,
      λ h. (both (i == i) (a && b) (sym (three (i == i) a b) ∙ h)).1,
    )

pub end_only : (t : List ℕ) (i j : ℕ) → IsTrue (line_end t i j) → j ≡ i
end_only t i j h = eqb-true j i (both (j == i) ((i == length t) || (get_or t i 0 == 10)) h).0

pub end_here : (t : List ℕ) (i : ℕ) → IsTrue ((here_at t i).ends) ↔ IsTrue (line_end t i i)
end_here t i =
    let b = (i == length t) || (get_or t i 0 == 10) in (
      λ h. and_true (i == i) b (eq-eqb i i refl) h,
      λ h. (both (i == i) b h).1,
    )
