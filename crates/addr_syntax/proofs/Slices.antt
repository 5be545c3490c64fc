-- Parts of a text.
use Rattle.std.proofs.Common.{◌≡◌, ℕ, suc, ◌+◌, ◌-◌, ◌<◌, ◌≤◌, ◌⊎◌, List, [], ◌∷◌, ◌++◌, length, get_or, drop, Some}
use Rattle.std.proofs.Common.{refl, sym, inl, inr, arith}
use Rattle.std.specs.Prelude.{slice_range}
use Rattle.std.proofs.lemmas.List.{take_more, get_or-drop, length-drop, length-take, drop_more}
use Rattle.addr_syntax.specs.Marks.{next_of}

pub slice_none : (xs : List ℕ) (i : ℕ) → slice_range xs i i ≡ []
slice_none xs i = let e : i - i ≡ 0 = omega arith in rw e refl

pub slice_more : (xs : List ℕ) (i j : ℕ) → i ≤ j → j < length xs → slice_range xs i (j + 1) ≡ slice_range xs i j
    ++ get_or xs j 0 ∷ []
slice_more xs i j l m =
    let e : (j + 1) - i ≡ (j - i) + 1 = omega arith in
    let f : i + (j - i) ≡ j = omega arith in
    rw (e, take_more (drop i xs) (j - i) 0 (omega (arith, length-drop i xs)), get_or-drop i xs (j - i) 0, f) refl

pub slice_length : (xs : List ℕ) (i j : ℕ) → i ≤ j → j ≤ length xs → length (slice_range xs i j) ≡ j - i
slice_length xs i j l m = omega (arith, length-take (j - i) (drop i xs), length-drop i xs)

pub slice_front : (xs : List ℕ) (i j : ℕ) → i < j → j ≤ length xs → slice_range xs i j ≡ get_or xs i 0 ∷ slice_range xs
    (i + 1) j
slice_front xs i j l m =
    let e : j - i ≡ suc (j - (i + 1)) = omega arith in
    rw (e, drop_more xs i 0 (omega arith)) refl

pub next_at : (xs : List ℕ) (i : ℕ) → i < length xs → next_of (drop i xs) ≡ Some (get_or xs i 0)
next_at xs i l = rw (drop_more xs i 0 l) refl

pub drop_end : (xs : List ℕ) → drop (length xs) xs ≡ []
drop_end [] = refl
drop_end (x ∷ xs) = drop_end xs

pub nil_not_cons : (x : ℕ) (xs : List ℕ) → [] ≡ x ∷ xs → ⊥
nil_not_cons x xs e = absurd cc

-- two ways to cut a list in two: one front is longer
pub cut_twice : (a b c d : List ℕ) → a ++ b ≡ c ++ d → ((x : List ℕ) × (c ≡ a ++ x) × (b ≡ x ++ d))
    ⊎ ((y : ℕ) × (ys : List ℕ) × (a ≡ c ++ y ∷ ys) × (d ≡ y ∷ ys ++ b))
cut_twice [] b c d e = inl (c, refl, e)
cut_twice (x ∷ a) b [] d e = inr (x, a, refl, sym e)
cut_twice (x ∷ a) b (z ∷ c) d e =
    let tail : a ++ b ≡ c ++ d = cc in
    let head : x ≡ z = cc in
    elim (cut_twice a b c d tail) [
      | inl p ↦ inl (p.0, cc, p.2)
      | inr p ↦ inr (p.0, p.1, cc, p.3)
    ]
