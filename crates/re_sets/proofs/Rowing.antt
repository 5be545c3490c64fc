-- A search by rows finds the span that begins first, and of those the longest.
use Rattle.std.proofs.Common.{◌≡◌, ℕ, zero, suc, ◌+◌, ◌<◌, ◌≤◌, ◌==◌, ◌⊎◌, Bool, true, false, List, [], ◌∷◌, ◌++◌}
use Rattle.std.proofs.Common.{Option, Some, None, refl, sym, subst, inl, inr, arith}
use Rattle.std.specs.Prelude.{IsTrue, ◌↔◌, if◌then◌else◌}
use Rattle.std.proofs.lemmas.Bool.{cases_lt, cases_eq, cases_Bool}
use Rattle.std.proofs.lemmas.Bool.Decides.{nat_tests}
use Rattle.am_text.specs.declared.range.Range.{Range}
use Rattle.re_sets.specs.Rows.{Row, AllRows, AnyRow, AreSorted, with_row, ended, parted, Seen, seen_at, new_row}
use Rattle.re_sets.specs.Rows.{move_rows, solid, Text, seen, onward, search, Beats, Covers, OnBest, Knows, Follows}
use Rattle.re_sets.specs.Rows.{Reaches, Tells, IsBest, Finds}

all_map : (P Q : Row → Type 0) → ((x : Row) → P x → Q x) → (xs : List Row) → AllRows P xs → AllRows Q xs
all_map P Q f [] a = tt
all_map P Q f (x ∷ xs) a = (f x a.0, all_map P Q f xs a.1)

any_map : (P Q : Row → Type 0) → ((x : Row) → P x → Q x) → (xs : List Row) → AnyRow P xs → AnyRow Q xs
any_map P Q f [] a = absurd a
any_map P Q f (x ∷ xs) a = elim a [ inl p ↦ inl (f x p) | inr q ↦ inr (any_map P Q f xs q) ]

-- a row of which both is known
any_all : (P Q R : Row → Type 0) → ((x : Row) → P x → Q x → R x) → (xs : List Row) → AnyRow P xs → AllRows Q xs
    → AnyRow R xs
any_all P Q R f [] a b = absurd a
any_all P Q R f (x ∷ xs) a b = elim a [ inl p ↦ inl (f x p b.0) | inr q ↦ inr (any_all P Q R f xs q b.1) ]

any_out : (A : Type 0) (xs : List Row) → AnyRow (λ x. A) xs → A
any_out A [] a = absurd a
any_out A (x ∷ xs) a = elim a [ inl p ↦ p | inr q ↦ any_out A xs q ]

all_left : (P : Row → Type 0) (xs ys : List Row) → AllRows P (xs ++ ys) → AllRows P xs
all_left P [] ys a = tt
all_left P (x ∷ xs) ys a = (a.0, all_left P xs ys a.1)

any_split : (P : Row → Type 0) (xs ys : List Row) → AnyRow P (xs ++ ys) → AnyRow P xs ⊎ AnyRow P ys
any_split P [] ys a = inr a
any_split P (x ∷ xs) ys a = elim a [
  | inl p ↦ inl (inl p)
  | inr q ↦ elim (any_split P xs ys q) [ inl u ↦ inl (inr u) | inr v ↦ inr v ]
]

-- ---- which rows end

abbrev pub EndedIs : (ℕ → Bool) → List Row → Option (ℕ × List Row) → Type 0
EndedIs e rows None = AnyRow (λ x. IsTrue (e x.set)) rows → ⊥
EndedIs e rows (Some p) =
    AnyRow (λ x. (x.start ≡ p.0) × IsTrue (e x.set)) rows
    × AllRows (λ x. x.start ≤ p.0) p.1
    × AreSorted p.1
    × ((rest : List Row) × (rows ≡ p.1 ++ rest) × AllRows (λ y. p.0 < y.start) rest)
    × ((i : ℕ) → AnyRow (λ x. (x.start ≤ i) × IsTrue (e x.set)) rows → p.0 ≤ i)

first_row : (e : ℕ → Bool) (x : Row) (xs : List Row) → AreSorted (x ∷ xs) → IsTrue (e x.set)
    → EndedIs e (x ∷ xs) (Some (x.start, x ∷ []))
first_row e x xs s t = (
  inl (refl, t),
  (omega arith, tt),
  (tt, tt),
  (xs, refl, s.0),
  λ i a. elim a [
    | inl p ↦ p.0
    | inr q ↦ any_out (x.start ≤ i) xs (any_all (λ y. (y.start ≤ i) × IsTrue (e y.set)) (λ y. x.start < y.start)
        (λ y. x.start ≤ i) (λ y u v. omega (arith, u.0, v)) xs q s.0)
  ],
)

later_row : (e : ℕ → Bool) (x : Row) (xs : List Row) → AreSorted (x ∷ xs)
    → e x.set ≡ false → (o : Option (ℕ × List Row)) → EndedIs e xs o → EndedIs e (x ∷ xs) (with_row x o)
later_row e x xs s f None is = λ a. elim a [ inl p ↦ cc (p, f) | inr q ↦ is q ]
later_row e x xs s f (Some p) is = (
  inr is.0,
  (
    any_out (x.start ≤ p.0) xs (any_all (λ y. (y.start ≡ p.0) × IsTrue (e y.set)) (λ y. x.start < y.start)
        (λ y. x.start ≤ p.0) (λ y u v. omega (arith, u.0, v)) xs is.0 s.0),
    is.1,
  ),
  (all_left (λ y. x.start < y.start) p.1 is.3.0 (subst (AllRows (λ y. x.start < y.start)) is.3.1 s.0), is.2),
  (is.3.0, subst (λ (z : List Row). (x ∷ xs) ≡ x ∷ z) is.3.1 refl, is.3.2),
  λ i a. elim a [ inl u ↦ absurd (cc (u.1, f)) | inr q ↦ is.4 i q ],
)

ended_by : (e : ℕ → Bool) (x : Row) (xs : List Row) → AreSorted (x ∷ xs) → EndedIs e xs (ended e xs) → (b : Bool)
    → e x.set ≡ b → EndedIs e (x ∷ xs) (if b then Some (x.start, x ∷ []) else with_row x (ended e xs))
ended_by e x xs s is true t = first_row e x xs s t
ended_by e x xs s is false f = later_row e x xs s f (ended e xs) is

kept_any : (e : ℕ → Bool) (rows : List Row) (p : ℕ × List Row) → EndedIs e rows (Some p) → (i : ℕ) (P : Row → Type 0)
    → AnyRow (λ x. (x.start ≤ i) × P x) rows → (p.0 < i) ⊎ AnyRow (λ x. (x.start ≤ i) × P x) p.1
kept_any e rows p is i P a = elim (any_split (λ x. (x.start ≤ i) × P x) p.1 is.3.0
    (subst (AnyRow (λ x. (x.start ≤ i) × P x)) is.3.1 a)) [
      | inl u ↦ inr u
      | inr v ↦ inl (any_out (p.0 < i) is.3.0 (any_all (λ x. (x.start ≤ i) × P x) (λ y. p.0 < y.start) (λ x. p.0 < i)
          (λ x u w. omega (arith, u.0, w)) is.3.0 v is.3.2))
    ]

kept_all : (e : ℕ → Bool) (rows : List Row) (p : ℕ × List Row) → EndedIs e rows (Some p) → (P : Row → Type 0)
    → AllRows P rows → AllRows P p.1
kept_all e rows p is P a = all_left P p.1 is.3.0 (subst (AllRows P) is.3.1 a)

pub ended_is : (e : ℕ → Bool) (xs : List Row) → AreSorted xs → EndedIs e xs (ended e xs)
ended_is e [] s = λ a. absurd a
ended_is e (x ∷ xs) s = ended_by e x xs s (ended_is e xs s.1) (e x.set) refl

module _ (S A : ℕ → ℕ → Type 0) (L : ℕ → ℕ → ℕ → Type 0) (low : ℕ) (t : Text) (tells : Tells S A L low t) where
  -- ---- the matches that end here

  abbrev pub After : ℕ → Seen → Type 0
  After k s = Knows S A L low k (k + 1) s.rows s.best × ((s.enters ≡ true) ⊎ Beats s.best k)

  seen_some : (k : ℕ) (rows : List Row) (best : Option Range) (p : ℕ × List Row) → Knows S A L low k k rows best
      → EndedIs (t.ends k) rows (Some p) → After k (seen_at k (t.null k) rows best (Some p))
  seen_some k rows best p knows is =
      let row = any_all (λ x. (x.start ≡ p.0) × IsTrue (t.ends k x.set))
      (λ x. (low ≤ x.start) × (x.start < k) × ((j : ℕ) → L x.set k j → S x.start j))
      (λ x. (low ≤ p.0) × (p.0 < k) × S p.0 k) (λ x u v. (
        subst (λ (z : ℕ). low ≤ z) u.0 v.0,
        subst (λ (z : ℕ). z < k) u.0 v.1,
        subst (λ (z : ℕ). S z k) u.0 (v.2 k (tells.ends_from x.set k u.1)),
      )) rows
      is.0 knows.sound in
      let here : (low ≤ p.0) × (p.0 < k) × S p.0 k = any_out ((low ≤ p.0) × (p.0 < k) × S p.0 k) rows row in
      let not_after : (b : Range) → AllRows (λ x. x.start ≤ b.q0) rows
      → p.0 ≤ b.q0 = λ b a. any_out (p.0 ≤ b.q0) rows (any_all (λ x. (x.start ≡ p.0) × IsTrue (t.ends k x.set))
      (λ x. x.start ≤ b.q0) (λ x. p.0 ≤ b.q0) (λ x u v. omega (arith, u.0, v)) rows is.0 a) in
      let beats : (o : Option Range) → OnBest (λ b. AllRows (λ x. x.start ≤ b.q0) rows) o → (i : ℕ) → Beats o i
      → p.0 < i = λ o a i. beaten o a i not_after in (
        record {
          sorted = is.2;
          sound = kept_all (t.ends k) rows p is (λ x. (low ≤ x.start) × (x.start < k)
              × ((j : ℕ) → L x.set k j → S x.start j)) knows.sound;
          before = is.1;
          is_span = (
            here.0,
            omega (arith, here.1),
            omega arith,
            here.2,
            λ a. omega (arith, here.1, tells.left_out p.0 k a),
          );
          opened = λ i j a b c m. elim (knows.opened i j a b c m) [
            | inl x ↦ inl (beats best knows.before i x)
            | inr y ↦ kept_any (t.ends k) rows p is i (λ x. L x.set k j) y
          ];
          done = λ i j a b m out. elim (cases_lt j k) [
            | inl l ↦ covered best knows.before knows.is_span i j l not_after (knows.done i j a l m out)
            | inr g ↦ elim (cases_lt i k) [
              | inl l ↦
                  let e : j ≡ k = omega (arith, b, g) in
                  elim (knows.opened i k a l (omega arith) (subst (λ (z : ℕ). S i z) e m)) [
                    | inl x ↦ inl (beats best knows.before i x)
                    | inr y ↦
                        let le : p.0 ≤ i = is.4 i (any_map (λ x. (x.start ≤ i) × L x.set k k)
                        (λ x. (x.start ≤ i) × IsTrue (t.ends k x.set)) (λ x u. (u.0, tells.ends_to x.set k u.1))
                        rows y) in
                        elim (cases_lt p.0 i) [ inl x ↦ inl x | inr z ↦ inr (omega (arith, le, z), omega (arith, b)) ]
                  ]
              | inr h ↦ inl (omega (arith, here.1, h))
            ]
          ];
        },
        inr here.1,
      )
    where
      beaten : (o : Option Range) → OnBest (λ b. AllRows (λ x. x.start ≤ b.q0) rows) o → (i : ℕ)
          → ((b : Range) → AllRows (λ x. x.start ≤ b.q0) rows → p.0 ≤ b.q0) → Beats o i → p.0 < i
      beaten None a i f x = absurd x
      beaten (Some b) a i f x = omega (arith, f b a, x)

      covered : (o : Option Range) → OnBest (λ b. AllRows (λ x. x.start ≤ b.q0) rows) o
          → OnBest (λ b. (low ≤ b.q0) × (b.q0 ≤ b.q1) × (b.q1 < k) × S b.q0 b.q1 × (A b.q0 b.q1 → ⊥)) o → (i j : ℕ)
          → j < k → ((b : Range) → AllRows (λ x. x.start ≤ b.q0) rows → p.0 ≤ b.q0) → Covers o i j → (p.0 < i)
          ⊎ ((p.0 ≡ i) × (j ≤ k))
      covered None a is i j l f x = absurd x
      covered (Some b) a is i j l f x = elim (cases_lt p.0 i) [
        | inl y ↦ inl y
        | inr z ↦ elim x [
          | inl u ↦ inl (omega (arith, f b a, u))
          | inr u ↦ inr (omega (arith, f b a, u.0, z), omega (arith, l))
        ]
      ]

  -- no row ends here: what ends here is null
  only_null : (k : ℕ) (rows : List Row) (best : Option Range) → Knows S A L low k k rows best
      → EndedIs (t.ends k) rows None → (i j : ℕ) → low ≤ i → j < k + 1 → S i j → (A i j → ⊥) → Covers best i j
      ⊎ (Beats best i ⊎ ((i ≡ k) × (j ≡ k)))
  only_null k rows best knows is i j a b m out = elim (cases_lt j k) [
    | inl l ↦ inl (knows.done i j a l m out)
    | inr g ↦ elim (cases_lt i k) [
      | inl l ↦
          let e : j ≡ k = omega (arith, b, g) in
          elim (knows.opened i k a l (omega arith) (subst (λ (z : ℕ). S i z) e m)) [
            | inl x ↦ inr (inl x)
            | inr y ↦ absurd (is (any_map (λ x. (x.start ≤ i) × L x.set k k) (λ x. IsTrue (t.ends k x.set))
                (λ x u. tells.ends_to x.set k u.1) rows y))
          ]
      | inr h ↦ inr (inr (omega (arith, h, b, tells.on i j m), omega (arith, b, g)))
    ]
  ]

  seen_best : (k : ℕ) (rows : List Row) (r : Range) → Knows S A L low k k rows (Some r) → EndedIs (t.ends k) rows None
      → After k (seen_at k (t.null k) rows (Some r) None)
  seen_best k rows r knows is =
      let b = knows.is_span in (
        record {
          sorted = knows.sorted;
          sound = knows.sound;
          before = knows.before;
          is_span = (b.0, b.1, omega (arith, b.2), b.3, b.4);
          opened = knows.opened;
          done = λ i j a l m out. elim (only_null k rows (Some r) knows is i j a l m out) [
            | inl x ↦ x
            | inr y ↦ elim y [ inl u ↦ inl u | inr u ↦ inl (omega (arith, u.0, b.1, b.2)) ]
          ];
        },
        inr (omega (arith, b.1, b.2)),
      )

  seen_none : (k : ℕ) (rows : List Row) → low ≤ k → Knows S A L low k k rows None → EndedIs (t.ends k) rows None
      → (n : Bool) → t.null k ≡ n → After k (seen_at k n rows None None)
  seen_none k rows above knows is true e =
      let here = tells.null_from k e in (
        record {
          sorted = knows.sorted;
          sound = knows.sound;
          before = all_map (λ x. (low ≤ x.start) × (x.start < k) × ((j : ℕ) → L x.set k j → S x.start j))
              (λ x. x.start ≤ k) (λ x u. omega (arith, u.1)) rows knows.sound;
          is_span = (above, omega arith, omega arith, here.0, here.1);
          opened = λ i j a b c m. elim (knows.opened i j a b c m) [ inl x ↦ absurd x | inr y ↦ inr y ];
          done = λ i j a l m out. elim (only_null k rows None knows is i j a l m out) [
            | inl x ↦ absurd x
            | inr y ↦ elim y [ inl u ↦ absurd u | inr u ↦ inr (sym u.0, omega (arith, u.1)) ]
          ];
        },
        inl refl,
      )
  seen_none k rows above knows is false e = (
    record {
      sorted = knows.sorted;
      sound = knows.sound;
      before = tt;
      is_span = tt;
      opened = knows.opened;
      done = λ i j a l m out. elim (only_null k rows None knows is i j a l m out) [
        | inl x ↦ absurd x
        | inr y ↦ elim y [
          | inl u ↦ absurd u
          | inr u ↦
              let s : S k k = subst (λ (z : ℕ). S k z) u.1 (subst (λ (z : ℕ). S z j) u.0 m) in
              absurd (cc (
                tells.null_to k s (λ x. out (subst (λ (z : ℕ). A i z) (sym u.1)
                    (subst (λ (z : ℕ). A z k) (sym u.0) x))),
                e,
              ))
        ]
      ];
    },
    inl refl,
  )

  seen_by : (k : ℕ) (rows : List Row) (best : Option Range) → low ≤ k → Knows S A L low k k rows best
      → (o : Option (ℕ × List Row)) → EndedIs (t.ends k) rows o → After k (seen_at k (t.null k) rows best o)
  seen_by k rows best above knows (Some p) is = seen_some k rows best p knows is
  seen_by k rows (Some r) above knows None is = seen_best k rows r knows is
  seen_by k rows None above knows None is = seen_none k rows above knows is (t.null k) refl

  pub seen_is : (k : ℕ) (rows : List Row) (best : Option Range) → low ≤ k → Knows S A L low k k rows best
      → After k (seen t k rows best)
  seen_is k rows best above knows = seen_by k rows best above knows (ended (t.ends k) rows)
      (ended_is (t.ends k) rows knows.sorted)

  -- ---- over one rune

  -- a row of the list still has it once letters are parted, or the set seen before has it
  part_any : (i k j : ℕ) (xs : List Row) (had : ℕ) → AreSorted xs → AnyRow (λ x. (x.start ≤ i) × L x.set k j) xs
      → L had k j ⊎ AnyRow (λ x. (x.start ≤ i) × L x.set k j) (parted t.minus t.union xs had)
  part_any i k j [] had s a = absurd a
  part_any i k j (x ∷ xs) had s a =
      let split : (x.start ≤ i) × L x.set k j → L had k j ⊎ AnyRow (λ y. (y.start ≤ i) × L y.set k j)
      (parted t.minus t.union (x ∷ xs) had) = λ u. elim (tells.part x.set had k j u.1)
      [ inl l ↦ inr (inl (u.0, l)) | inr l ↦ inl l ] in
      elim a [
        | inl u ↦ split u
        | inr q ↦ elim (part_any i k j xs (t.union had x.set) s.1 q) [
          | inl l ↦ elim (tells.union_cases had x.set k j l) [
            | inl h ↦ inl h
            | inr h ↦ split (
              any_out (x.start ≤ i) xs (any_all (λ y. (y.start ≤ i) × L y.set k j)
                  (λ y. x.start < y.start) (λ y. x.start ≤ i) (λ y u v. omega (arith, u.0, v)) xs q s.0),
              h,
            )
          ]
          | inr r ↦ inr (inr r)
        ]
      ]

  -- what holds of starts holds still
  part_starts : (P : ℕ → Type 0) (xs : List Row) (had : ℕ) → AllRows (λ x. P x.start) xs
      → AllRows (λ x. P x.start) (parted t.minus t.union xs had)
  part_starts P [] had a = tt
  part_starts P (x ∷ xs) had a = (a.0, part_starts P xs (t.union had x.set) a.1)

  part_sorted : (xs : List Row) (had : ℕ) → AreSorted xs → AreSorted (parted t.minus t.union xs had)
  part_sorted [] had s = tt
  part_sorted (x ∷ xs) had s = (
    part_starts (λ z. x.start < z) xs (t.union had x.set) s.0,
    part_sorted xs (t.union had x.set) s.1,
  )

  abbrev pub IsSound : ℕ → Row → Type 0
  IsSound k x = (low ≤ x.start) × (x.start < k) × ((j : ℕ) → L x.set k j → S x.start j)

  part_sound : (k : ℕ) (xs : List Row) (had : ℕ) → AllRows (IsSound k) xs
      → AllRows (IsSound k) (parted t.minus t.union xs had)
  part_sound k [] had a = tt
  part_sound k (x ∷ xs) had a =
      ((a.0.0, a.0.1, λ j l. a.0.2 j (tells.minus_in x.set had k j l)), part_sound k xs (t.union had x.set) a.1)

  move_starts : (P : ℕ → Type 0) (f : ℕ → ℕ) (xs ys : List Row) → AllRows (λ x. P x.start) xs
      → AllRows (λ x. P x.start) ys → AllRows (λ x. P x.start) (move_rows f xs ++ ys)
  move_starts P f [] ys a b = b
  move_starts P f (x ∷ xs) ys a b = (a.0, move_starts P f xs ys a.1 b)

  enter_starts : (P : ℕ → Type 0) (b : Bool) (k set : ℕ) → P k → AllRows (λ x. P x.start) (new_row b k set)
  enter_starts P true k set p = (p, tt)
  enter_starts P false k set p = tt

  move_sorted : (k : ℕ) (f : ℕ → ℕ) (b : Bool) (set : ℕ) (xs : List Row) → AreSorted xs → AllRows (λ x. x.start < k) xs
      → AreSorted (move_rows f xs ++ new_row b k set)
  move_sorted k f true set [] s a = (tt, tt)
  move_sorted k f false set [] s a = tt
  move_sorted k f b set (x ∷ xs) s a = (
    move_starts (λ z. x.start < z) f xs (new_row b k set) s.0 (enter_starts (λ z. x.start < z) b k set a.0),
    move_sorted k f b set xs s.1 a.1,
  )

  enter_sound : (b : Bool) (k : ℕ) → low ≤ k → AllRows (IsSound (k + 1)) (new_row b k (t.begin k))
  enter_sound true k a = ((a, omega arith, λ j l. tells.begin_from k j l), tt)
  enter_sound false k a = tt

  move_sound : (k : ℕ) (xs ys : List Row) → AllRows (IsSound k) xs → AllRows (IsSound (k + 1)) ys
      → AllRows (IsSound (k + 1)) (move_rows (t.move k) xs ++ ys)
  move_sound k [] ys a b = b
  move_sound k (x ∷ xs) ys a b =
      ((a.0.0, omega (arith, a.0.1), λ j l. a.0.2 j (tells.move_from x.set k j l)), move_sound k xs ys a.1 b)

  move_any : (i k j : ℕ) (xs ys : List Row) → k < j → AnyRow (λ x. (x.start ≤ i) × L x.set k j) xs
      → AnyRow (λ x. (x.start ≤ i) × L x.set (k + 1) j) (move_rows (t.move k) xs ++ ys)
  move_any i k j [] ys l a = absurd a
  move_any i k j (x ∷ xs) ys l a = elim a [
    | inl u ↦ inl (u.0, tells.move_to x.set k j l u.1)
    | inr q ↦ inr (move_any i k j xs ys l q)
  ]

  any_end : (P : Row → Type 0) (f : ℕ → ℕ) (xs ys : List Row) → AnyRow P ys → AnyRow P (move_rows f xs ++ ys)
  any_end P f [] ys a = a
  any_end P f (x ∷ xs) ys a = inr (any_end P f xs ys a)

  enter_any : (b : Bool) (k j : ℕ) → b ≡ true → L (t.begin k) (k + 1) j
      → AnyRow (λ x. (x.start ≤ k) × L x.set (k + 1) j) (new_row b k (t.begin k))
  enter_any true k j e l = inl (omega arith, l)
  enter_any false k j e l = absurd (cc (e))

  next_any : (i j : ℕ) (k : ℕ) (s : Seen) → After k s → AnyRow (λ x. (x.start ≤ i) × L x.set (k + 1) j)
      (move_rows (t.move k) s.rows ++ new_row s.enters k (t.begin k))
      → AnyRow (λ x. (x.start ≤ i) × L x.set (k + 1) j) (onward t k s)
  next_any i j k s a any =
      let starts = all_map (IsSound k) (λ x. x.start < k) (λ x u. u.1) s.rows a.0.sound in
      elim (part_any i (k + 1) j (move_rows (t.move k) s.rows ++ new_row s.enters k (t.begin k)) 0
      (move_sorted k (t.move k) s.enters (t.begin k) s.rows a.0.sorted starts) any) [
        | inl l ↦ absurd (tells.empty (k + 1) j l)
        | inr r ↦ r
      ]

  next_before : (k : ℕ) (s : Seen) (o : Option Range) → OnBest (λ b. AllRows (λ x. x.start ≤ b.q0) s.rows) o
      → ((s.enters ≡ true) → OnBest (λ b. k ≤ b.q0) o) → (b : Bool)
      → s.enters ≡ b → OnBest (λ b. AllRows (λ x. x.start ≤ b.q0) (onward t k s)) o
  next_before k s None a f b e = tt
  next_before k s (Some r) a f true e =
      part_starts (λ z. z ≤ r.q0) (move_rows (t.move k) s.rows ++ new_row s.enters k (t.begin k)) 0
      (move_starts (λ z. z ≤ r.q0) (t.move k) s.rows (new_row s.enters k (t.begin k)) a
      (enter_starts (λ z. z ≤ r.q0) s.enters k (t.begin k) (f e)))
  next_before k s (Some r) a f false e =
      part_starts (λ z. z ≤ r.q0) (move_rows (t.move k) s.rows ++ new_row s.enters k (t.begin k)) 0
      (move_starts (λ z. z ≤ r.q0) (t.move k) s.rows (new_row s.enters k (t.begin k)) a
      (subst (λ (z : Bool). AllRows (λ x. x.start ≤ r.q0) (new_row z k (t.begin k))) (sym e) tt))

  pub next_is : (k : ℕ) (s : Seen) → low ≤ k → After k s → ((s.enters ≡ true) → OnBest (λ b. k ≤ b.q0) s.best)
      → Knows S A L low (k + 1) (k + 1) (onward t k s) s.best
  next_is k s above a late =
      let starts = all_map (IsSound k) (λ x. x.start < k) (λ x u. u.1) s.rows a.0.sound in
      let all = move_rows (t.move k) s.rows ++ new_row s.enters k (t.begin k) in
      record {
        sorted = part_sorted all 0 (move_sorted k (t.move k) s.enters (t.begin k) s.rows a.0.sorted starts);
        sound = part_sound (k + 1) all 0 (move_sound k s.rows (new_row s.enters k (t.begin k)) a.0.sound
            (enter_sound s.enters k above));
        before = next_before k s s.best a.0.before late s.enters refl;
        is_span = a.0.is_span;
        opened = λ i j b c d m. elim (cases_lt i k) [
          | inl l ↦ elim (a.0.opened i j b l (omega (arith, d)) m) [
            | inl x ↦ inl x
            | inr y ↦ inr (next_any i j k s a (move_any i k j s.rows (new_row s.enters k (t.begin k)) (omega (arith, d))
                y))
          ]
          | inr g ↦
              let e : i ≡ k = omega (arith, c, g) in
              elim a.1 [
                | inl x ↦ inr (subst (λ (z : ℕ). AnyRow (λ x. (x.start ≤ z) × L x.set (k + 1) j) (onward t k s)) (sym e)
                    (next_any k j k s a (any_end (λ x. (x.start ≤ k) × L x.set (k + 1) j) (t.move k) s.rows
                    (new_row s.enters k (t.begin k)) (enter_any s.enters k j x
                    (tells.begin_to k j (omega (arith, d)) (subst (λ (z : ℕ). S z j) e m))))))
                | inr x ↦ inl (subst (Beats s.best) (sym e) x)
              ]
        ];
        done = a.0.done;
      }

  -- a row begins at k only where no match was found that begins before
  late_by : (k : ℕ) (rows : List Row) (best : Option Range) (o : Option (ℕ × List Row)) (n : Bool)
      → (seen_at k n rows best o).enters ≡ true → OnBest (λ b. k ≤ b.q0) (seen_at k n rows best o).best
  late_by k rows best (Some p) n e = absurd (cc (e))
  late_by k rows (Some b) None n e = absurd (cc (e))
  late_by k rows None None true e = omega arith
  late_by k rows None None false e = tt

  finds_by : (k : ℕ) (rows : List Row) (o : Option Range) → Knows S A L low k (k + 1) rows o → Finds S A L low k o
  finds_by k rows None knows = λ i j a b m out. knows.done i j a (omega (arith, b)) m out
  finds_by k rows (Some r) knows =
      let x = knows.is_span in
      record {
        above = x.0;
        below = omega (arith, x.2);
        span = x.3;
        allowed = x.4;
        least = λ i j a b m out. knows.done i j a (omega (arith, b)) m out;
      }

  pub search_finds : (n k : ℕ) (rows : List Row) (best : Option Range) → low ≤ k → Knows S A L low k k rows best
      → Finds S A L low (k + n) (search t n k rows best)
  search_finds zero k rows best above knows =
      let e : k ≡ k + zero = omega arith in
      let s = seen t k rows best in
      subst (λ (z : ℕ). Finds S A L low z s.best) e (finds_by k s.rows s.best (seen_is k rows best above knows).0)
  search_finds (suc n) k rows best above knows =
      let e : k + 1 + n ≡ k + suc n = omega arith in
      let s = seen t k rows best in
      let after = seen_is k rows best above knows in
      subst (λ (z : ℕ). Finds S A L low z (search t n (k + 1) (onward t k s) s.best)) e
      (search_finds n (k + 1) (onward t k s) s.best (omega (arith, above))
      (next_is k s above after (late_by k rows best (ended (t.ends k) rows) (t.null k))))

  pub search_is : (n : ℕ) → Finds S A L low (low + n) (search t n low [] None)
  search_is n = search_finds n low [] None (omega arith) (record {
    sorted = tt;
    sound = tt;
    before = tt;
    is_span = tt;
    opened = λ i j a b c m. absurd (omega (arith, a, b));
    done = λ i j a b m out. absurd (omega (arith, a, b, tells.on i j m));
  })

  -- no row is left: what was found is the answer
  pub stops : (k high : ℕ) (best : Range) → Knows S A L low k k [] (Some best) → k ≤ high + 1
      → IsBest S A L low high best
  stops k high best knows l =
      let x = knows.is_span in
      record {
        above = x.0;
        below = omega (arith, x.2, l);
        span = x.3;
        allowed = x.4;
        least = λ i j a b m out. elim (cases_lt j k) [
          | inl y ↦ knows.done i j a y m out
          | inr y ↦ elim (cases_lt i k) [
            | inl z ↦ elim (knows.opened i j a z y m) [ inl u ↦ inl u | inr u ↦ absurd u ]
            | inr z ↦ inl (omega (arith, z, x.1, x.2))
          ]
        ];
      }

  -- ---- rows that have no letter are left out

  all_by : (P : Row → Type 0) (x : Row) (xs : List Row) (b : Bool) → P x → AllRows P (solid xs)
      → AllRows P (if b then solid xs else x ∷ solid xs)
  all_by P x xs true p a = a
  all_by P x xs false p a = (p, a)

  solid_all : (P : Row → Type 0) (xs : List Row) → AllRows P xs → AllRows P (solid xs)
  solid_all P [] a = tt
  solid_all P (x ∷ xs) a = all_by P x xs (x.set == 0) a.0 (solid_all P xs a.1)

  sorted_by : (x : Row) (xs : List Row) (b : Bool) → AllRows (λ y. x.start < y.start) (solid xs) → AreSorted (solid xs)
      → AreSorted (if b then solid xs else x ∷ solid xs)
  sorted_by x xs true a s = s
  sorted_by x xs false a s = (a, s)

  solid_sorted : (xs : List Row) → AreSorted xs → AreSorted (solid xs)
  solid_sorted [] s = tt
  solid_sorted (x ∷ xs) s = sorted_by x xs (x.set == 0) (solid_all (λ y. x.start < y.start) xs s.0)
      (solid_sorted xs s.1)

  any_by : (P : Row → Type 0) (x : Row) (xs : List Row) (b : Bool) → (b ≡ true → P x → ⊥) → P x ⊎ AnyRow P (solid xs)
      → AnyRow P (if b then solid xs else x ∷ solid xs)
  any_by P x xs true f a = elim a [ inl u ↦ absurd (f refl u) | inr v ↦ v ]
  any_by P x xs false f a = a

  dead : (i k j : ℕ) (x : Row) → (x.set == 0) ≡ true → (x.start ≤ i) × L x.set k j → ⊥
  dead i k j x e u =
      let z : x.set ≡ 0 = grind (arith, nat_tests, e) in
      tells.empty k j (subst (λ (z : ℕ). L z k j) z u.1)

  solid_any : (i k j : ℕ) (xs : List Row) → AnyRow (λ x. (x.start ≤ i) × L x.set k j) xs
      → AnyRow (λ x. (x.start ≤ i) × L x.set k j) (solid xs)
  solid_any i k j [] a = absurd a
  solid_any i k j (x ∷ xs) a = any_by (λ x. (x.start ≤ i) × L x.set k j) x xs (x.set == 0) (dead i k j x)
      (elim a [ inl u ↦ inl u | inr v ↦ inr (solid_any i k j xs v) ])

  solid_best : (o : Option Range) (xs : List Row) → OnBest (λ b. AllRows (λ x. x.start ≤ b.q0) xs) o
      → OnBest (λ b. AllRows (λ x. x.start ≤ b.q0) (solid xs)) o
  solid_best None xs a = tt
  solid_best (Some b) xs a = solid_all (λ x. x.start ≤ b.q0) xs a

  pub solid_is : (k closed : ℕ) (rows : List Row) (best : Option Range) → Knows S A L low k closed rows best
      → Knows S A L low k closed (solid rows) best
  solid_is k closed rows best knows = record {
    sorted = solid_sorted rows knows.sorted;
    sound = solid_all (IsSound k) rows knows.sound;
    before = solid_best best rows knows.before;
    is_span = knows.is_span;
    opened = λ i j a b c m. elim (knows.opened i j a b c m) [ inl x ↦ inl x | inr y ↦ inr (solid_any i k j rows y) ];
    done = knows.done;
  }

  -- no match begins here, and there are no rows
  pub skip_is : (k : ℕ) → low ≤ k → t.null k ≡ false → ((j : ℕ) → L (t.begin k) (k + 1) j → ⊥)
      → Knows S A L low k k [] None → Knows S A L low (k + 1) (k + 1) [] None
  skip_is k above n dead knows = record {
    sorted = tt;
    sound = tt;
    before = tt;
    is_span = tt;
    opened = λ i j a b c m. elim (cases_lt i k) [
      | inl l ↦ elim (knows.opened i j a l (omega (arith, c)) m) [ inl x ↦ absurd x | inr y ↦ absurd y ]
      | inr g ↦
          let e : i ≡ k = omega (arith, b, g) in
          absurd (dead j (tells.begin_to k j (omega (arith, c)) (subst (λ (z : ℕ). S z j) e m)))
    ];
    done = λ i j a l m out. elim (only_null k [] None knows (λ a. absurd a) i j a l m out) [
      | inl x ↦ absurd x
      | inr y ↦ elim y [
        | inl u ↦ absurd u
        | inr u ↦
            let s : S k k = subst (λ (z : ℕ). S k z) u.1 (subst (λ (z : ℕ). S z j) u.0 m) in
            absurd (cc (
              tells.null_to k s (λ x. out (subst (λ (z : ℕ). A i z) (sym u.1)
                  (subst (λ (z : ℕ). A z k) (sym u.0) x))),
              n,
            ))
      ]
    ];
  }

  pub start_is : Knows S A L low low low [] None
  start_is = record {
    sorted = tt;
    sound = tt;
    before = tt;
    is_span = tt;
    opened = λ i j a b c m. absurd (omega (arith, a, b));
    done = λ i j a b m out. absurd (omega (arith, a, b, tells.on i j m));
  }

  -- ---- one row is followed alone

  pub follow_is : (k start set : ℕ) → Knows S A L low k k (record { start = start; set = set } ∷ []) None
      → Follows S A L low k start set
  follow_is k start set knows =
      let x = knows.sound.0 in
      record {
        above = x.0;
        begun = x.1;
        sound = x.2;
        opened = λ i j a b c m. elim (knows.opened i j a (omega (arith, b, x.1)) c m) [
          | inl y ↦ absurd y
          | inr y ↦ elim y [ inl u ↦ u | inr u ↦ absurd u ]
        ];
        done = λ i j a b c m out. knows.done i j a c m out;
      }

  pub follow_step : (k start set : ℕ) → t.ends k set ≡ false → Follows S A L low k start set
      → Follows S A L low (k + 1) start (t.move k set)
  follow_step k start set e f = record {
    above = f.above;
    begun = omega (arith, f.begun);
    sound = λ j l. f.sound j (tells.move_from set k j l);
    opened = λ i j a b c m.
        let x = f.opened i j a b (omega (arith, c)) m in
        (x.0, tells.move_to set k j (omega (arith, c)) x.1);
    done = λ i j a b c m out. elim (cases_lt j k) [
      | inl l ↦ f.done i j a b l m out
      | inr g ↦
          let s : j ≡ k = omega (arith, c, g) in
          let x = f.opened i k a b (omega arith) (subst (λ (z : ℕ). S i z) s m) in
          cc (tells.ends_to set k x.1, e)
    ];
  }

  followed : (k start set : ℕ) → t.ends k set ≡ true → Follows S A L low k start set
      → After k (record {
        rows = record { start = start; set = set } ∷ [];
        best = Some (record { q0 = start; q1 = k });
        enters = false;
      })
  followed k start set e f = (
    record {
      sorted = (tt, tt);
      sound = ((f.above, f.begun, f.sound), tt);
      before = (omega arith, tt);
      is_span = (
        f.above,
        omega (arith, f.begun),
        omega arith,
        f.sound k (tells.ends_from set k e),
        λ a. omega (arith, f.begun, tells.left_out start k a),
      );
      opened = λ i j a b c m. elim (cases_lt start i) [
        | inl l ↦ inl l
        | inr g ↦ inr (inl (f.opened i j a (omega (arith, g)) c m))
      ];
      done = λ i j a l m out. elim (cases_lt start i) [
        | inl x ↦ inl x
        | inr g ↦ elim (cases_lt j k) [
          | inl y ↦ absurd (f.done i j a (omega (arith, g)) y m out)
          | inr y ↦
              let s : j ≡ k = omega (arith, l, y) in
              let x = f.opened i k a (omega (arith, g)) (omega arith) (subst (λ (z : ℕ). S i z) s m) in
              inr (omega (arith, g, x.0), omega (arith, l))
        ]
      ];
    },
    inr f.begun,
  )

  seen_followed : (k start set : ℕ) (best : Option Range) → t.ends k set ≡ true → Follows S A L low k start set
      → After k (seen t k (record { start = start; set = set } ∷ []) best)
  seen_followed k start set best e f =
      let s : seen t k (record { start = start; set = set } ∷ []) best
      ≡ record {
        rows = record { start = start; set = set } ∷ [];
        best = Some (record { q0 = start; q1 = k });
        enters = false;
      } = rw e refl in
      subst (After k) (sym s) (followed k start set e f)

  reached : (k : ℕ) (rows : List Row) (best : Option Range) → low ≤ k → Reaches S A L low t k rows best
      → After k (seen t k rows best)
  reached k rows best above x = elim x [
    | inl knows ↦ seen_is k rows best above knows
    | inr p ↦ subst (λ (z : List Row). After k (seen t k z best)) (sym p.1)
        (seen_followed k p.0.start p.0.set best p.3 p.2)
  ]

  pub step_from : (k : ℕ) (rows : List Row) (best : Option Range) → low ≤ k → Reaches S A L low t k rows best
      → Knows S A L low (k + 1) (k + 1) (solid (onward t k (seen t k rows best))) (seen t k rows best).best
  step_from k rows best above x =
      let s = seen t k rows best in
      solid_is (k + 1) (k + 1) (onward t k s) s.best (next_is k s above (reached k rows best above x)
      (late_by k rows best (ended (t.ends k) rows) (t.null k)))

  pub end_from : (k : ℕ) (rows : List Row) (best : Option Range) → low ≤ k → Reaches S A L low t k rows best
      → Finds S A L low k (seen t k rows best).best
  end_from k rows best above x =
      let s = seen t k rows best in
      finds_by k s.rows s.best (reached k rows best above x).0
