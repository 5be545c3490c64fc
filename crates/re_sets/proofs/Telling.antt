-- What the tables tell of a text.
use Rattle.std.proofs.Common.{◌≡◌, ℕ, zero, suc, ◌+◌, ◌<◌, ◌≤◌, ◌⊎◌, ◌==◌, ◌&&◌, ◌||◌, Bool, true, false, not, List, []}
use Rattle.std.proofs.Common.{length, Option, Some, None, refl, sym, subst, inl, inr, arith}
use Rattle.std.specs.Prelude.{IsTrue, ◌↔◌, slice_index, nat_lt, bit_and, bit_or, if◌then◌else◌}
use Rattle.std.specs.Int.Bits.{bit_xor}
use Rattle.std.specs.Int.{bit_at}
use Rattle.std.proofs.lemmas.Bool.{cases_lt, cases_eq, cases_Bool}
use Rattle.std.proofs.lemmas.Bool.Decides.{nat_tests}
use Rattle.std.proofs.lemmas.Nat.Bits.{bit_at_or, bit_at_and, bit_at_xor, bit_at-lt}
use Rattle.re_syntax.specs.Tree.{Tree}
use Rattle.re_spans.specs.Choice.{is_at}
use Rattle.re_sets.specs.Readings.{Reading, Spans, Null}
use Rattle.re_sets.specs.Spots.{takes_at, null, first, last, follow}
use Rattle.re_sets.specs.Numbers.{letters, number, bits, rows, any_below, step, enter, is_end, Leads}
use Rattle.re_sets.specs.Words.{on}
use Rattle.re_sets.specs.Rows.{Text, Tells}
use Rattle.re_sets.specs.Tables.{Table, IsTable, join_rows, meet, text_of}
use Rattle.re_sets.specs.Laws.{LeftOut}
use Rattle.re_sets.proofs.Going.{both, and_true, Spans-on, After-on}
use Rattle.re_sets.proofs.Numbering.{below_to, below_from, bits_in}
use Rattle.re_sets.proofs.Steps.{sets_are_stepped, sets_are_entered}
use Rattle.re_sets.proofs.Wording.{on_is, on_or_left, on_or_right, on_or_cases, on_zero}

pub on_and : (a b n : ℕ) → IsTrue (on a n) → IsTrue (on b n) → IsTrue (on (bit_and a b) n)
on_and a b n h g = (on_is (bit_and a b) n).1 (omega (arith, bit_at_and a b n, (on_is a n).0 h, (on_is b n).0 g))

pub on_and_from : (a b n : ℕ) → IsTrue (on (bit_and a b) n) → IsTrue (on a n) × IsTrue (on b n)
on_and_from a b n h = (
  (on_is a n).1 (omega (arith, bit_at_and a b n, bit_at-lt a n, bit_at-lt b n, (on_is (bit_and a b) n).0 h)),
  (on_is b n).1 (omega (arith, bit_at_and a b n, bit_at-lt a n, bit_at-lt b n, (on_is (bit_and a b) n).0 h)),
)

pub on_minus : (a b n : ℕ) → IsTrue (on a n) → IsTrue (on (bit_xor a (bit_and a b)) n) ⊎ IsTrue (on b n)
on_minus a b n h = elim (cases_eq (bit_at b n) 1) [
  | inl e ↦ inr ((on_is b n).1 e)
  | inr o ↦ inl ((on_is (bit_xor a (bit_and a b)) n).1 (omega (
    arith,
    bit_at_xor a (bit_and a b) n,
    bit_at_and a b n,
    bit_at-lt b n,
    o,
    (on_is a n).0 h,
  )))
]

pub on_minus_in : (a b n : ℕ) → IsTrue (on (bit_xor a (bit_and a b)) n) → IsTrue (on a n)
on_minus_in a b n h =
    (on_is a n).1 (omega (
      arith,
      bit_at_xor a (bit_and a b) n,
      bit_at_and a b n,
      bit_at-lt a n,
      bit_at-lt b n,
      (on_is (bit_xor a (bit_and a b)) n).0 h,
    ))

-- ---- rows joined

join_to_by : (row : ℕ → ℕ) (set c m n : ℕ) → m < suc c → IsTrue (on set m) → IsTrue (on (row m) n)
    → (m < c → IsTrue (on (join_rows row set c) n)) → (b : Bool) → on set c ≡ b →
    IsTrue (on (if b then bit_or (row c) (join_rows row set c) else join_rows row set c) n)
join_to_by row set c m n l h g rest true e = elim (cases_lt m c) [
  | inl x ↦ on_or_right (row c) (join_rows row set c) n (rest x)
  | inr y ↦ let s : m ≡ c = omega (arith, l, y) in on_or_left (row c) (join_rows row set c) n
      (subst (λ (z : ℕ). IsTrue (on (row z) n)) s g)
]
join_to_by row set c m n l h g rest false e = elim (cases_lt m c) [
  | inl x ↦ rest x
  | inr y ↦ let s : m ≡ c = omega (arith, l, y) in absurd (cc (subst (λ (z : ℕ). IsTrue (on set z)) s h, e))
]

pub join_to : (row : ℕ → ℕ) (set c m n : ℕ) → m < c → IsTrue (on set m) → IsTrue (on (row m) n)
    → IsTrue (on (join_rows row set c) n)
join_to row set zero m n l h g = absurd (omega (arith, l))
join_to row set (suc c) m n l h g = join_to_by row set c m n l h g (λ x. join_to row set c m n x h g) (on set c) refl

abbrev pub Joined : (ℕ → ℕ) → ℕ → ℕ → ℕ → Type 0
Joined row set c n = (m : ℕ) × (m < c) × IsTrue (on set m) × IsTrue (on (row m) n)

join_from_by : (row : ℕ → ℕ) (set c n : ℕ) → (IsTrue (on (join_rows row set c) n) → Joined row set c n) → (b : Bool)
    → on set c ≡ b → IsTrue (on (if b then bit_or (row c) (join_rows row set c) else join_rows row set c) n)
    → Joined row set (suc c) n
join_from_by row set c n rest true e g = elim (on_or_cases (row c) (join_rows row set c) n g) [
  | inl x ↦ (c, omega arith, e, x)
  | inr y ↦ let p = rest y in (p.0, omega (arith, p.1), p.2, p.3)
]
join_from_by row set c n rest false e g = let p = rest g in (p.0, omega (arith, p.1), p.2, p.3)

pub join_from : (row : ℕ → ℕ) (set c n : ℕ) → IsTrue (on (join_rows row set c) n) → Joined row set c n
join_from row set zero n h = absurd (on_zero n h)
join_from row set (suc c) n h = join_from_by row set c n (join_from row set c n) (on set c) refl h

more_leads : (r : Tree) (w : Reading) (s u : ℕ → Bool) (k j : ℕ) → ((n : ℕ) → IsTrue (s n) → IsTrue (u n))
    → Leads r w s k j → Leads r w u k j
more_leads r w s u k j f l = (l.0, f (number r 0 l.0) l.1, l.2)

-- a choice by a test
if_to : (P : ℕ → Type 0) (b : Bool) (x : ℕ) → IsTrue b → P x → P (if b then x else 0)
if_to P true x h p = p
if_to P false x h p = absurd (cc (h))

pub if_from : (b : Bool) (x n : ℕ) → IsTrue (on (if b then x else 0) n) → IsTrue b × IsTrue (on x n)
if_from true x n h = (refl, h)
if_from false x n h = absurd (on_zero n h)

module _ (r : Tree) (t : Table) (w : Reading) (no_null : Option ℕ) (low : ℕ) (is : IsTable r t) where
  abbrev L : ℕ → ℕ → ℕ → Type 0
  L x k j = Leads r w (on x) k j

  step_word : (k x n : ℕ) → IsTrue (step r (w.here k) (w.rune k) (on x) n)
      → IsTrue (on (bit_and (join_rows (t.row (w.here k)) x t.size) (t.takes (w.rune k))) n)
  step_word k x n h =
      let y = both (any_below (λ m. on x m && rows r 0 (follow r (w.here k)) m n) (letters r))
      (bits r 0 (takes_at r (w.rune k)) n) h in
      let m = below_from (λ m. on x m && rows r 0 (follow r (w.here k)) m n) (letters r) y.0 in
      let z = both (on x m.0) (rows r 0 (follow r (w.here k)) m.0 n) m.2 in
      let small : m.0 < t.size = omega (arith, m.1, is.few) in
      on_and (join_rows (t.row (w.here k)) x t.size) (t.takes (w.rune k)) n
      (join_to (t.row (w.here k)) x t.size m.0 n small z.0 ((is.rows_is (w.here k) m.0 n small).1 z.1))
      ((is.takes_is (w.rune k) n).1 y.1)

  word_step : (k x n : ℕ) → IsTrue (on (bit_and (join_rows (t.row (w.here k)) x t.size) (t.takes (w.rune k))) n)
      → IsTrue (step r (w.here k) (w.rune k) (on x) n)
  word_step k x n h =
      let y = on_and_from (join_rows (t.row (w.here k)) x t.size) (t.takes (w.rune k)) n h in
      let m = join_from (t.row (w.here k)) x t.size n y.0 in
      let row = (is.rows_is (w.here k) m.0 n m.1).0 m.3 in
      let inside = bits_in r 0 (λ p. bits r 0 (follow r (w.here k) p) n) m.0 row in
      and_true (any_below (λ m. on x m && rows r 0 (follow r (w.here k)) m n) (letters r))
      (bits r 0 (takes_at r (w.rune k)) n) (below_to (λ m. on x m && rows r 0 (follow r (w.here k)) m n) (letters r)
      m.0 (omega (arith, inside.1)) (and_true (on x m.0) (rows r 0 (follow r (w.here k)) m.0 n) m.2 row))
      ((is.takes_is (w.rune k) n).0 y.1)

  enter_word : (k n : ℕ) → IsTrue (enter r (w.here k) (w.rune k) n) ↔ IsTrue
      (on (bit_and (t.first (w.here k)) (t.takes (w.rune k))) n)
  enter_word k n = (
    λ h.
        let y = both (bits r 0 (first r (w.here k)) n) (bits r 0 (takes_at r (w.rune k)) n) h in
        on_and (t.first (w.here k)) (t.takes (w.rune k)) n ((is.first_is (w.here k) n).1 y.0)
        ((is.takes_is (w.rune k) n).1 y.1),
    λ h.
        let y = on_and_from (t.first (w.here k)) (t.takes (w.rune k)) n h in
        and_true (bits r 0 (first r (w.here k)) n) (bits r 0 (takes_at r (w.rune k)) n)
        ((is.first_is (w.here k) n).0 y.0) ((is.takes_is (w.rune k) n).0 y.1),
  )

  end_word : (k x : ℕ) → IsTrue (is_end r (w.here k) (on x)) ↔ IsTrue (meet t.size x (t.last (w.here k)))
  end_word k x = (
    λ h.
        let m = below_from (λ m. on x m && bits r 0 (last r (w.here k)) m) (letters r) h in
        let y = both (on x m.0) (bits r 0 (last r (w.here k)) m.0) m.2 in
        below_to (λ m. on x m && on (t.last (w.here k)) m) t.size m.0 (omega (arith, m.1, is.few))
        (and_true (on x m.0) (on (t.last (w.here k)) m.0) y.0 ((is.last_is (w.here k) m.0).1 y.1)),
    λ h.
        let m = below_from (λ m. on x m && on (t.last (w.here k)) m) t.size h in
        let y = both (on x m.0) (on (t.last (w.here k)) m.0) m.2 in
        let b = (is.last_is (w.here k) m.0).0 y.1 in
        below_to (λ m. on x m && bits r 0 (last r (w.here k)) m) (letters r) m.0
        (omega (arith, (bits_in r 0 (last r (w.here k)) m.0 b).1))
        (and_true (on x m.0) (bits r 0 (last r (w.here k)) m.0) y.0 b),
  )

  out_to : (o : Option ℕ) (k : ℕ) → (LeftOut o k k → ⊥) → IsTrue (not (is_at o k))
  out_to None k f = refl
  out_to (Some p) k f = go (p == k) refl
    where
      go : (b : Bool) → (p == k) ≡ b → IsTrue (not b)
      go true e = absurd (f (
        refl,
        let s : p ≡ k = grind (arith, nat_tests, e) in
            subst (λ (z : ℕ). Some p ≡ Some z) s refl,
      ))
      go false e = refl

  out_from : (o : Option ℕ) (k : ℕ) → IsTrue (not (is_at o k)) → LeftOut o k k → ⊥
  out_from None k h l = cc (l.1)
  out_from (Some p) k h l = go (p == k) refl h
    where
      go : (b : Bool) → (p == k) ≡ b → IsTrue (not b) → ⊥
      go true e g = cc (g)
      go false e g = let s : p ≡ k = cc (l.1) in grind (arith, nat_tests, e, s)

  pub tells : Tells (Spans r w) (LeftOut no_null) (λ x k j. Leads r w (on x) k j) low (text_of t w no_null)
  tells = record {
    on = Spans-on r w;
    ends_to = λ x k l. elim ((sets_are_stepped r w (on x) k k).0 l) [
      | inl z ↦ (end_word k x).0 z.1
      | inr e ↦ absurd (omega (arith, After-on r w e.1.0 (k + 1) k e.1.2))
    ];
    ends_from = λ x k h. (sets_are_stepped r w (on x) k k).1 (inl (refl, (end_word k x).1 h));
    null_to = λ k s out. elim ((sets_are_entered r w k k).0 s) [
      | inl z ↦ and_true (t.null (w.here k)) (not (is_at no_null k)) (subst IsTrue (sym (is.null_is (w.here k))) z.1)
          (out_to no_null k out)
      | inr e ↦ absurd (omega (arith, After-on r w e.1.0 (k + 1) k e.1.2))
    ];
    null_from = λ k h.
        let y = both (t.null (w.here k)) (not (is_at no_null k)) h in
        ((sets_are_entered r w k k).1 (inl (refl, subst IsTrue (is.null_is (w.here k)) y.0)), out_from no_null k y.1);
    left_out = λ i j a. a.0;
    move_to = λ x k j l h. elim ((sets_are_stepped r w (on x) k j).0 h) [
      | inl z ↦ absurd (omega (arith, l, z.0))
      | inr e ↦ if_to (λ z. Leads r w (on z) (k + 1) j) (nat_lt k w.count)
          (bit_and (join_rows (t.row (w.here k)) x t.size) (t.takes (w.rune k))) (grind (arith, nat_tests, e.0))
          (more_leads r w (step r (w.here k) (w.rune k) (on x)) (on
          (bit_and (join_rows (t.row (w.here k)) x t.size) (t.takes (w.rune k)))) (k + 1) j (step_word k x) e.1)
    ];
    move_from = λ x k j h.
        let y = if_from (nat_lt k w.count) (bit_and (join_rows (t.row (w.here k)) x t.size) (t.takes (w.rune k)))
        (number r 0 h.0) h.1 in
        (sets_are_stepped r w (on x) k j).1 (inr (
          grind (arith, nat_tests, y.0),
          (h.0, word_step k x (number r 0 h.0) y.1, h.2),
        ));
    begin_to = λ k j l s. elim ((sets_are_entered r w k j).0 s) [
      | inl z ↦ absurd (omega (arith, l, z.0))
      | inr e ↦ if_to (λ z. Leads r w (on z) (k + 1) j) (nat_lt k w.count)
          (bit_and (t.first (w.here k)) (t.takes (w.rune k))) (grind (arith, nat_tests, e.0))
          (e.1.0, (enter_word k (number r 0 e.1.0)).0 e.1.1, e.1.2)
    ];
    begin_from = λ k j h.
        let y = if_from (nat_lt k w.count) (bit_and (t.first (w.here k)) (t.takes (w.rune k))) (number r 0 h.0) h.1 in
        (sets_are_entered r w k j).1 (inr (
          grind (arith, nat_tests, y.0),
          (h.0, (enter_word k (number r 0 h.0)).1 y.1, h.2),
        ));
    part = λ x y k j h. elim (on_minus x y (number r 0 h.0) h.1) [
      | inl u ↦ inl (h.0, u, h.2)
      | inr u ↦ inr (h.0, u, h.2)
    ];
    minus_in = λ x y k j h. (h.0, on_minus_in x y (number r 0 h.0) h.1, h.2);
    union_cases = λ x y k j h. elim (on_or_cases x y (number r 0 h.0) h.1)
        [ inl u ↦ inl (h.0, u, h.2) | inr u ↦ inr (h.0, u, h.2) ];
    empty = λ k j h. on_zero (number r 0 h.0) h.1;
  }
