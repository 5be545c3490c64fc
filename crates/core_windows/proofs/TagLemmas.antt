-- The right part of a tag, shortened.
use Rattle.std.proofs.Common.{◌≡◌, ℕ, zero, suc, ◌-◌, ◌<◌, ◌≤◌, List, [], ◌∷◌, ◌++◌, length, take, drop, refl, ap}
use Rattle.std.proofs.Common.{arith}
use Rattle.std.specs.Prelude.{remove}

kept_front : {A : Type 0} (n i : ℕ) (xs : List A) → n ≤ i → take n (take i xs ++ drop (suc i) xs) ≡ take n xs
kept_front zero i xs h = refl
kept_front (suc n) zero xs h = absurd (omega arith)
kept_front (suc n) (suc i) [] h = refl
kept_front (suc n) (suc i) (x ∷ xs) h = ap (λ ys. x ∷ ys) (kept_front n i xs (omega arith))

-- without the last member
pub shorter : {A : Type 0} (n : ℕ) (xs : List A) → n < length xs → take n (remove xs (length xs - 1)) ≡ take n xs
shorter n xs h = kept_front n (length xs - 1) xs (omega arith)

pub short : {A : Type 0} (n : ℕ) (xs : List A) → length xs ≤ n → xs ≡ take n xs
short zero [] h = refl
short (suc n) [] h = refl
short zero (x ∷ xs) h = absurd (omega arith)
short (suc n) (x ∷ xs) h = ap (λ ys. x ∷ ys) (short n xs (omega arith))

pub ruleset shortened = (shorter, short)
