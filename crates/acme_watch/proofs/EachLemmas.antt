-- Lists of which each member, or one, changed.
use Rattle.std.proofs.Common.{◌≡◌, ℕ, zero, suc, ◌+◌, ◌<◌, ◌||◌, ◌&&◌, Bool, true, false, cond, List, [], ◌∷◌, ◌++◌}
use Rattle.std.proofs.Common.{length, get_or, set, take, drop, map, filter, refl, ap, ◌∙◌, arith, add-one}
use Rattle.std.specs.List.{list_any}

-- a change of each in its place, one step on
module _ {X : Type 0} where
  at_place : (f : X → X) (xs : List X) (i : ℕ) (d : X) → get_or (map f (take i xs) ++ drop i xs) i d ≡ get_or xs i d
  at_place f [] zero d = refl
  at_place f [] (suc i) d = refl
  at_place f (x ∷ xs) zero d = refl
  at_place f (x ∷ xs) (suc i) d = at_place f xs i d

  set_place : (f : X → X) (xs : List X) (i : ℕ) (d y : X) → i < length xs → y ≡ f (get_or xs i d)
      → set (map f (take i xs) ++ drop i xs) i y ≡ map f (take (suc i) xs) ++ drop (suc i) xs
  set_place f [] i d y l e = absurd (omega arith)
  set_place f (x ∷ xs) zero d y l e = ap (λ z. z ∷ xs) e
  set_place f (x ∷ xs) (suc i) d y l e = ap (λ zs. f x ∷ zs) (set_place f xs i d y (omega arith) e)

  pub each_changed : (f : X → X) (old xs : List X) (i : ℕ) (d y : X) → xs ≡ map f (take i old) ++ drop i old
      → i < length old → y ≡ f (get_or xs i d) → set xs i y ≡ map f (take (i + 1) old) ++ drop (i + 1) old
  each_changed f old xs i d y e l n =
      rw (add-one, e) (set_place f old i d y l (n ∙ ap f (ap (λ zs. get_or zs i d) e ∙ at_place f old i d)))

module _ {X Y : Type 0} where
  -- a change that isn't shown
  pub map-set : (f : X → Y) (xs : List X) (k : ℕ) (d y : X) → f y ≡ f (get_or xs k d) → map f (set xs k y) ≡ map f xs
  map-set f [] k d y e = refl
  map-set f (x ∷ xs) zero d y e = ap (λ z. z ∷ map f xs) e
  map-set f (x ∷ xs) (suc k) d y e = ap (λ zs. f x ∷ zs) (map-set f xs k d y e)

  pub map-take : (f : X → Y) (n : ℕ) (xs : List X) → map f (take n xs) ≡ take n (map f xs)
  map-take f zero xs = refl
  map-take f (suc n) [] = refl
  map-take f (suc n) (x ∷ xs) = ap (λ zs. f x ∷ zs) (map-take f n xs)

  pub any-map : (f : X → Y) (p : Y → Bool) (xs : List X) → list_any (λ x. p (f x)) xs ≡ list_any p (map f xs)
  any-map f p [] = refl
  any-map f p (x ∷ xs) = ap (λ b. p (f x) || b) (any-map f p xs)

-- what a filter leaves was there before
pub any_filtered : {X : Type 0} (test p : X → Bool) (xs : List X) → list_any test (filter p xs) ≡ true
    → list_any test xs ≡ true
any_filtered test p [] h = h
any_filtered test p (x ∷ xs) h = by (p x) (any_filtered test p xs) h
  where
    right : (a b : Bool) → b ≡ true → (a || b) ≡ true
    right true b k = refl
    right false b k = k

    both : (t a b : Bool) → (a ≡ true → b ≡ true) → (t || a) ≡ true → (t || b) ≡ true
    both true a b f k = refl
    both false a b f k = f k

    by : (b : Bool) → (list_any test (filter p xs) ≡ true → list_any test xs ≡ true)
        → list_any test (cond b (x ∷ filter p xs) (filter p xs)) ≡ true
        → (test x || list_any test xs) ≡ true
    by true later k = both (test x) (list_any test (filter p xs)) (list_any test xs) later k
    by false later k = right (test x) (list_any test xs) (later k)

pub and_true : (b : Bool) → b ≡ (b && true)
and_true true = refl
and_true false = refl

pub either : {X : Type 0} (b : Bool) (x : X) → x ≡ cond b x x
either true x = refl
either false x = refl
