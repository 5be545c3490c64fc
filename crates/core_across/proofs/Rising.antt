-- The live windows by rising number, and those of them that a command takes.
use Rattle.std.proofs.Common.{◌≡◌, ℕ, zero, suc, ◌+◌, ◌<◌, ◌≤◌, Bool, true, false, cond, eqb, ◌||◌, List, [], ◌∷◌}
use Rattle.std.proofs.Common.{length, map, Option, Some, None, refl, sym, ap, subst, ◌∙◌, arith}
use Rattle.std.specs.Prelude.{IsSome, slice_index_or}
use Rattle.std.specs.List.{list_any}
use Rattle.std.proofs.lemmas.Bool.Decides.{nat_tests}
use Rattle.edit_run.specs.declared.types.EditPlan.{EditPlan}
use Rattle.edit_files.specs.Laws.{taken_from}
use Rattle.core_windows.specs.Windows.{Window, window_at, numbers}
use Rattle.core_windows.proofs.Steps.{listed_lives}
use Rattle.core_actions.specs.Seen.{name_of}
use Rattle.core_across.specs.Plans.{number_at, live_names, numbered, AreRising}

-- ---- numbers of live windows

above : (n k : ℕ) (ws : List (Option Window)) → k < length (numbers n ws) → n ≤ slice_index_or (numbers n ws) k 0
above n k [] l = absurd (omega (arith, l))
above n k (None ∷ ws) l = let i : n + 1 ≤ slice_index_or (numbers (n + 1) ws) k 0 = above (n + 1) k ws l in
    omega (arith, i)
above n zero (Some w ∷ ws) l = omega arith
above n (suc k) (Some w ∷ ws) l =
    let i : n + 1 ≤ slice_index_or (numbers (n + 1) ws) k 0 = above (n + 1) k ws (omega (arith, l)) in omega (arith, i)

rise : (n j k : ℕ) (ws : List (Option Window)) → j < k → k < length (numbers n ws)
    → slice_index_or (numbers n ws) j 0 < slice_index_or (numbers n ws) k 0
rise n j k [] h l = absurd (omega (arith, l))
rise n j k (None ∷ ws) h l = rise (n + 1) j k ws h l
rise n j zero (Some w ∷ ws) h l = absurd (omega (arith, h))
rise n zero (suc k) (Some w ∷ ws) h l =
    let i : n + 1 ≤ slice_index_or (numbers (n + 1) ws) k 0 = above (n + 1) k ws (omega (arith, l)) in omega (arith, i)
rise n (suc j) (suc k) (Some w ∷ ws) h l = rise (n + 1) j k ws (omega (arith, h)) (omega (arith, l))

is_there : (n : ℕ) → eqb n n ≡ true
is_there n = grind (arith, nat_tests)

any_more : (b c : Bool) → c ≡ true → (b || c) ≡ true
any_more true c h = refl
any_more false c h = h

any_here : (b c : Bool) → b ≡ true → (b || c) ≡ true
any_here true c h = refl
any_here false c h = absurd cc

listed : (k : ℕ) (ns : List ℕ) → k < length ns → list_any (λ v. eqb v (slice_index_or ns k 0)) ns ≡ true
listed k [] l = absurd (omega (arith, l))
listed zero (n ∷ ns) l = any_here (eqb n n) (list_any (λ v. eqb v n) ns) (is_there n)
listed (suc k) (n ∷ ns) l = any_more (eqb n (slice_index_or ns k 0))
    (list_any (λ v. eqb v (slice_index_or ns k 0)) ns) (listed k ns (omega (arith, l)))

-- what is listed lives
pub lives_at : (ws : List (Option Window)) (k : ℕ) → k < length (numbers 1 ws) → IsSome (window_at ws (number_at ws k))
lives_at ws k l = listed_lives ws (number_at ws k) (listed k (numbers 1 ws) l)

-- ---- the places of windows that are taken

-- places between these bounds, rising
abbrev pub IsRow : ℕ → ℕ → List ℕ → Type 0
IsRow low high [] = Unit {0}
IsRow low high (k ∷ ks) = (low ≤ k) × (k < high) × IsRow (suc k) high ks

lower : (low low' high : ℕ) (ks : List ℕ) → low' ≤ low → IsRow low high ks → IsRow low' high ks
lower low low' high [] h row = tt
lower low low' high (k ∷ ks) h row = (omega (arith, h, row.0), row.1, row.2)

pub taken_rise : (is_taken : List ℕ → Bool) (k high : ℕ) (names : List (List ℕ)) → k + length names ≡ high
    → IsRow k high (taken_from is_taken k names)
taken_rise is_taken k high [] h = tt
taken_rise is_taken k high (name ∷ names) h =
    let rest : IsRow (suc k) high (taken_from is_taken (suc k) names) =
    taken_rise is_taken (suc k) high names (omega (arith, h)) in
    elim (is_taken name) as (λ b. IsRow k high (cond b (k ∷ taken_from is_taken (suc k) names)
    (taken_from is_taken (suc k) names))) [
      | true ↦ (omega arith, omega (arith, h), rest)
      | false ↦ lower (suc k) k high (taken_from is_taken (suc k) names) (omega arith) rest
    ]

-- plans at rising places are plans of windows of rising number
plans_rise : (ws : List (Option Window)) (low n : ℕ) (plans : List (ℕ × EditPlan))
    → IsRow low (length (numbers 1 ws)) (map (λ (p : ℕ × EditPlan). p.0) plans)
    → ((k : ℕ) → low ≤ k → k < length (numbers 1 ws) → n < number_at ws k)
    → AreRising n (map (numbered ws) plans)
plans_rise ws low n [] row h = tt
plans_rise ws low n (p ∷ ps) row h = (
  h p.0 row.0 row.1,
  plans_rise ws (suc p.0) (number_at ws p.0) ps row.2 (λ k above within. rise 1 p.0 k ws (omega (arith, above)) within),
)

pub numbers_rise : (ws : List (Option Window)) (plans : List (ℕ × EditPlan))
    → IsRow 0 (length (numbers 1 ws)) (map (λ (p : ℕ × EditPlan). p.0) plans) → AreRising 0 (map (numbered ws) plans)
numbers_rise ws plans row = plans_rise ws 0 0 plans row (λ k low within.
    let i : 1 ≤ number_at ws k = above 1 k ws within in omega (arith, i))
