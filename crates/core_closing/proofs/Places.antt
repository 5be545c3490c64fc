-- A list at one place.
use Rattle.std.proofs.Common.{◌≡◌, ℕ, zero, suc, ◌≤◌, List, [], ◌∷◌, length, refl, ap, arith}
use Rattle.std.specs.Prelude.{slice_set}

module _ {X : Type 0} where
  -- past the end nothing is set
  pub set_past : (xs : List X) (k : ℕ) (x : X) → length xs ≤ k → xs ≡ slice_set xs k x
  set_past [] k x h = refl
  set_past (y ∷ ys) zero x h = absurd (omega arith)
  set_past (y ∷ ys) (suc k) x h = ap (λ (l : List X). y ∷ l) (set_past ys k x (omega arith))
