-- The rows of a set's members, which get the members of another set.
use Rattle.std.proofs.Common.{◌≡◌, ℕ, ◌<◌, ◌⊎◌, List, length, map, get_or, sym, ap, subst, ◌∙◌, inl, inr}
use Rattle.std.specs.Prelude.{IsTrue, bit_or, slice_index, slice_set}
use Rattle.std.proofs.lemmas.Bool.{cases_eq}
use Rattle.std.proofs.lemmas.List.{get_or-set_same, get_or-set_other, get_or-map, map-set}
use Rattle.re_sets.specs.Words.{on}
use Rattle.re_sets.proofs.Wording.{on_or_left, on_or_right, on_or_cases, on_zero}
use Rattle.re_machine.specs.Sets.{IsWithout, AreAdded}

pub set_same : (xs : List ℕ) (k m v : ℕ) → k < length xs → m ≡ k → slice_index (slice_set xs k v) m ≡ v
set_same xs k m v l e = subst (λ (z : ℕ). slice_index (slice_set xs k v) z ≡ v) (sym e) (get_or-set_same xs k v 0 l)

pub set_other : (xs : List ℕ) (k m v : ℕ) → (m ≡ k → ⊥) → slice_index (slice_set xs k v) m ≡ slice_index xs m
set_other xs k m v o = get_or-set_other xs k m v 0 o

-- what the rows have while these members are left
pub record IsAdding (old new : List ℕ) (from to left : ℕ) : Type 0 where
  pub inside : (m : ℕ) → IsTrue (on left m) → IsTrue (on from m)
  pub had : (m n : ℕ) → IsTrue (on (slice_index old m) n) → IsTrue (on (slice_index new m) n)
  pub got : (m n : ℕ) → IsTrue (on (slice_index new m) n) → IsTrue (on (slice_index old m) n)
      ⊎ (IsTrue (on from m) × IsTrue (on to n))
  pub done : (m : ℕ) → IsTrue (on from m) → IsTrue (on left m) ⊎ ((n : ℕ) → IsTrue (on to n)
      → IsTrue (on (slice_index new m) n))

pub adding_begun : (old : List ℕ) (from to : ℕ) → IsAdding old old from to from
adding_begun old from to = record { inside = λ m h. h; had = λ m n h. h; got = λ m n h. inl h; done = λ m h. inl h }

pub adding_more : (old rows new : List ℕ) (from to left k left' : ℕ) → IsAdding old rows from to left → k < length rows
    → IsTrue (on left k) → IsWithout left k left' → new ≡ slice_set rows k (bit_or (slice_index rows k) to)
    → IsAdding old new from to left'
adding_more old rows new from to left k left' a l h w e =
    let row : ℕ = bit_or (slice_index rows k) to in
    let same : (m : ℕ) → m ≡ k → slice_index new m ≡ row = λ m s. subst (λ (z : List ℕ). slice_index z m ≡ row) (sym e)
    (set_same rows k m row l s) in
    let other : (m : ℕ) → (m ≡ k → ⊥) → slice_index new m ≡ slice_index rows m =
    λ m o. subst (λ (z : List ℕ). slice_index z m ≡ slice_index rows m) (sym e) (set_other rows k m row o) in
    record {
      inside = λ m x. a.inside m ((w.others m).0 x).0;
      had = λ m n x. elim (cases_eq m k) [
        | inl s ↦ subst (λ (z : ℕ). IsTrue (on z n)) (sym (same m s))
            (on_or_left (slice_index rows k) to n (subst (λ (z : ℕ). IsTrue (on (slice_index rows z) n)) s
            (a.had m n x)))
        | inr o ↦ subst (λ (z : ℕ). IsTrue (on z n)) (sym (other m o)) (a.had m n x)
      ];
      got = λ m n x. elim (cases_eq m k) [
        | inl s ↦ elim (on_or_cases (slice_index rows k) to n (subst (λ (z : ℕ). IsTrue (on z n)) (same m s) x)) [
          | inl y ↦ a.got m n (subst (λ (z : ℕ). IsTrue (on (slice_index rows z) n)) (sym s) y)
          | inr y ↦ inr (subst (λ (z : ℕ). IsTrue (on from z)) (sym s) (a.inside k h), y)
        ]
        | inr o ↦ a.got m n (subst (λ (z : ℕ). IsTrue (on z n)) (other m o) x)
      ];
      done = λ m x. elim (cases_eq m k) [
        | inl s ↦ inr (λ n y. subst (λ (z : ℕ). IsTrue (on z n)) (sym (same m s))
            (on_or_right (slice_index rows k) to n y))
        | inr o ↦ elim (a.done m x) [
          | inl y ↦ inl ((w.others m).1 (y, o))
          | inr f ↦ inr (λ n y. subst (λ (z : ℕ). IsTrue (on z n)) (sym (other m o)) (f n y))
        ]
      ];
    }

pub adding_done : (old new : List ℕ) (from to left : ℕ) → IsAdding old new from to left
    → left ≡ 0 → AreAdded old new from to
adding_done old new from to left a z m n = (
  λ x. a.got m n x,
  λ x. elim x [
    | inl y ↦ a.had m n y
    | inr y ↦ elim (a.done m y.0) [
      | inl u ↦ absurd (on_zero m (subst (λ (w : ℕ). IsTrue (on w m)) z u))
      | inr f ↦ f n y.1
    ]
  ],
)

-- one row is written
pub set_more : {S : Type 0} (bits : S → ℕ) (rows : List S) (n : ℕ) (x y : S) (to : ℕ) → n < length rows
    → x ≡ get_or rows n x → bits y ≡ bit_or (bits x) to → map bits (slice_set rows n y) ≡ slice_set (map bits rows) n
    (bit_or (slice_index (map bits rows) n) to)
set_more bits rows n x y to l e f =
    let there : bits x ≡ slice_index (map bits rows) n = ap bits e ∙ sym (get_or-map bits rows n x 0 l) in
    map-set bits rows n y ∙ ap (λ (v : ℕ). slice_set (map bits rows) n v) (f ∙ ap (λ (z : ℕ). bit_or z to) there)
