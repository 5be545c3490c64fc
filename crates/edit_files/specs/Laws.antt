-- What holds of all plans.
use Rattle.std.specs.Prelude.{◌≡◌, ℕ, suc, Bool, List, [], ◌∷◌, ◌++◌, map}
use Rattle.std.specs.Prelude.{Result, Ok, Err, if◌then◌else◌}
use Rattle.edit_files.specs.Across.{plans_from}

-- the places of the windows that are taken, from the k-th on
abbrev pub taken_from : (List ℕ → Bool) → ℕ → List (List ℕ) → List ℕ
taken_from is_taken k [] = []
taken_from is_taken k (name ∷ names) =
    if is_taken name then k ∷ taken_from is_taken (suc k) names else taken_from is_taken (suc k) names

module _ {P F : Type 0} where
  -- each plan is that of its window
  abbrev pub AreOf : (ℕ → Result P F) → List (ℕ × P) → Type 0
  AreOf run [] = Unit {0}
  AreOf run (plan ∷ plans) = (run plan.0 ≡ Ok plan.1) × AreOf run plans

  -- each window of these has a plan
  abbrev pub ArePlanned : (ℕ → Result P F) → List ℕ → Type 0
  ArePlanned run [] = Unit {0}
  ArePlanned run (k ∷ ks) = ((plan : P) × (run k ≡ Ok plan)) × ArePlanned run ks

  -- the plans are those of the windows taken, in their order
  abbrev pub PlansAreOfTheTaken : (ℕ → Result P F) → Type 0
  PlansAreOfTheTaken run =
      (is_taken : List ℕ → Bool) (names : List (List ℕ)) (plans : List (ℕ × P)) →
      plans_from run is_taken 0 names ≡ Ok plans →
      (map (λ plan. plan.0) plans ≡ taken_from is_taken 0 names) × AreOf run plans

  -- a fault is that of the first taken window that has one: those before it have plans
  abbrev pub FaultsAreOfTheFirst : (ℕ → Result P F) → Type 0
  FaultsAreOfTheFirst run =
      (is_taken : List ℕ → Bool) (names : List (List ℕ)) (k : ℕ) (fault : F) →
      plans_from run is_taken 0 names ≡ Err (k, fault) →
      (before after : List ℕ) × (taken_from is_taken 0 names ≡ before ++ k ∷ after) × ArePlanned run before
      × (run k ≡ Err fault)
