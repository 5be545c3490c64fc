-- Lists that are gone through from the front, and lists that grow at the end.
use Rattle.std.proofs.Common.{◌≡◌, ℕ, zero, suc, ◌+◌, ◌<◌, ◌≤◌, List, [], ◌∷◌, ◌++◌, length, map, get_or, drop, refl}
use Rattle.std.proofs.Common.{sym, ap, subst, ◌∙◌, inl, inr, arith}
use Rattle.std.specs.Prelude.{slice_index}
use Rattle.std.proofs.lemmas.Bool.{cases_lt}

pub drop_at : {X : Type 0} (xs : List X) (n : ℕ) (d : X) → n < length xs → drop n xs ≡ get_or xs n d ∷ drop (suc n) xs
drop_at [] n d l = absurd (omega (arith, l))
drop_at (x ∷ xs) zero d l = refl
drop_at (x ∷ xs) (suc n) d l = drop_at xs n d (omega (arith, l))

-- the same of what a list is seen as
drop_map : {X Y : Type 0} (f : X → Y) (xs : List X) (n : ℕ) (y : X) → n < length xs → y ≡ get_or xs n y
    → drop n (map f xs) ≡ f y ∷ drop (suc n) (map f xs)
drop_map f [] n y l e = absurd (omega (arith, l))
drop_map f (x ∷ xs) zero y l e = ap (λ z. f z ∷ map f xs) (sym e)
drop_map f (x ∷ xs) (suc n) y l e = drop_map f xs n y (omega (arith, l)) e

pub drop_map_at : {X Y : Type 0} (f : X → Y) (xs : List X) (n m : ℕ) (y : X) → n < length xs → y ≡ get_or xs n y
    → m ≡ suc n → drop n (map f xs) ≡ f y ∷ drop m (map f xs)
drop_map_at f xs n m y l e s = subst (λ (z : ℕ). drop n (map f xs) ≡ f y ∷ drop z (map f xs)) (sym s)
    (drop_map f xs n y l e)

pub drop_map_all : {X Y : Type 0} (f : X → Y) (xs : List X) (n : ℕ) → length xs ≤ n → drop n (map f xs) ≡ []
drop_map_all f [] zero l = refl
drop_map_all f [] (suc n) l = refl
drop_map_all f (x ∷ xs) zero l = absurd (omega (arith, l))
drop_map_all f (x ∷ xs) (suc n) l = drop_map_all f xs n (omega (arith, l))

pub drop_all : {X : Type 0} (xs : List X) (n : ℕ) → length xs ≤ n → drop n xs ≡ []
drop_all [] zero l = refl
drop_all [] (suc n) l = refl
drop_all (x ∷ xs) zero l = absurd (omega (arith, l))
drop_all (x ∷ xs) (suc n) l = drop_all xs n (omega (arith, l))

pub drop_none : {X : Type 0} (xs : List X) → drop 0 xs ≡ xs
drop_none [] = refl
drop_none (x ∷ xs) = refl

-- a number of a list that got one more
pub grown_below : (xs : List ℕ) (x d : ℕ) → d < length xs → slice_index (xs ++ x ∷ []) d ≡ slice_index xs d
grown_below [] x d l = absurd (omega (arith, l))
grown_below (y ∷ xs) x zero l = refl
grown_below (y ∷ xs) x (suc d) l = grown_below xs x d (omega (arith, l))

pub grown_at : (xs : List ℕ) (x : ℕ) → slice_index (xs ++ x ∷ []) (length xs) ≡ x
grown_at [] x = refl
grown_at (y ∷ xs) x = grown_at xs x

-- what holds of all numbers of a list so far holds of one more
pub grown : (xs : List ℕ) (x n : ℕ) (f : ℕ → ℕ) → length xs ≡ n → ((d : ℕ) → d < n → slice_index xs d ≡ f d) → x ≡ f n
    → (d : ℕ) → d < n + 1 → slice_index (xs ++ x ∷ []) d ≡ f d
grown xs x n f e h last d l = elim (cases_lt d n) [
  | inl y ↦ grown_below xs x d (omega (arith, e, y)) ∙ h d y
  | inr y ↦
      let s : d ≡ n = omega (arith, l, y) in
      let at : slice_index (xs ++ x ∷ []) n ≡ x = subst (λ (z : ℕ). slice_index (xs ++ x ∷ []) z ≡ x) e
      (grown_at xs x) in
      subst (λ (z : ℕ). slice_index (xs ++ x ∷ []) z ≡ f z) (sym s) (at ∙ last)
]
