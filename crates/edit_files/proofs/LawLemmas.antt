-- Plans are those of the windows taken.
use Rattle.std.proofs.Common.{◌≡◌, ℕ, suc, Bool, true, false, List, [], ◌∷◌, ◌++◌, map, refl, sym}
use Rattle.std.proofs.Common.{ap, subst, ◌∙◌}
use Rattle.std.specs.Prelude.{Result, Ok, Err, if◌then◌else◌}
use Rattle.edit_files.specs.Across.{told_here, and_then, plans_from}
use Rattle.edit_files.specs.Laws.{taken_from, AreOf, ArePlanned}

module _ {P F : Type 0} where
  abbrev Are : (ℕ → Result P F) → List ℕ → List (ℕ × P) → Type 0
  Are run taken plans = (map (λ plan. plan.0) plans ≡ taken) × AreOf run plans

  pub plans_of : (run : ℕ → Result P F) (is_taken : List ℕ → Bool) (k : ℕ) (names : List (List ℕ))
      (plans : List (ℕ × P)) → plans_from run is_taken k names ≡ Ok plans → Are run (taken_from is_taken k names) plans
  plans_of run is_taken k [] plans e = let f : [] ≡ plans =
      cc in subst (λ (ps : List (ℕ × P)). Are run [] ps) f (refl, tt)
  plans_of run is_taken k (name ∷ names) plans e =
      go (is_taken name) refl (run k) refl (plans_from run is_taken (suc k) names) refl
      (λ ps f. plans_of run is_taken (suc k) names ps f) e
    where
      go : (b : Bool) → is_taken name ≡ b → (r : Result P F) → run k ≡ r → (later : Result (List (ℕ × P)) (ℕ × F)) →
          plans_from run is_taken (suc k) names ≡ later
          → ((ps : List (ℕ × P)) → later ≡ Ok ps → Are run (taken_from is_taken (suc k) names) ps)
          → and_then k (told_here k r b) later ≡ Ok plans → Are run
          (if b then k ∷ taken_from is_taken (suc k) names else taken_from is_taken (suc k) names) plans
      go false t r u (Ok ps) l on h = let f : ps ≡ plans =
          cc in subst (λ (qs : List (ℕ × P)). Are run (taken_from is_taken (suc k) names) qs) f (on ps refl)
      go false t r u (Err f) l on h = absurd cc
      go true t (Ok plan) u (Ok ps) l on h =
          let f : (k, plan) ∷ ps ≡ plans = cc in
          let x = on ps refl in
          subst (λ (qs : List (ℕ × P)). Are run (k ∷ taken_from is_taken (suc k) names) qs) f
          (ap (λ (ks : List ℕ). k ∷ ks) x.0, (u, x.1))
      go true t (Ok plan) u (Err f) l on h = absurd cc
      go true t (Err f) u later l on h = absurd cc

  abbrev IsFirst : (ℕ → Result P F) → List ℕ → ℕ → F → Type 0
  IsFirst run taken k fault =
      (before after : List ℕ) × (taken ≡ before ++ k ∷ after) × ArePlanned run before × (run k ≡ Err fault)

  pub first_of : (run : ℕ → Result P F) (is_taken : List ℕ → Bool) (j : ℕ) (names : List (List ℕ)) (k : ℕ) (fault : F) →
      plans_from run is_taken j names ≡ Err (k, fault) → IsFirst run (taken_from is_taken j names) k fault
  first_of run is_taken j [] k fault e = absurd cc
  first_of run is_taken j (name ∷ names) k fault e =
      go (is_taken name) refl (run j) refl (plans_from run is_taken (suc j) names) refl
      (λ f. first_of run is_taken (suc j) names k fault f) e
    where
      go : (b : Bool) → is_taken name ≡ b → (r : Result P F) → run j ≡ r → (later : Result (List (ℕ × P)) (ℕ × F)) →
          plans_from run is_taken (suc j) names ≡ later
          → (later ≡ Err (k, fault) → IsFirst run (taken_from is_taken (suc j) names) k fault)
          → and_then j (told_here j r b) later ≡ Err (k, fault) → IsFirst run
          (if b then j ∷ taken_from is_taken (suc j) names else taken_from is_taken (suc j) names) k fault
      go false t r u (Ok ps) l on h = absurd cc
      go false t r u (Err f) l on h = on h
      go true t (Ok plan) u (Ok ps) l on h = absurd cc
      go true t (Ok plan) u (Err f) l on h =
          let x = on h in
          (j ∷ x.0, x.1, ap (λ (ks : List ℕ). j ∷ ks) x.2, ((plan, u), x.3), x.4)
      go true t (Err f) u later l on h =
          let p : ◌≡◌ {A = ℕ × F} (j, f) (k, fault) = cc in
          let first : j ≡ k = ap (λ (q : ℕ × F). q.0) p in
          let same : f ≡ fault = ap (λ (q : ℕ × F). q.1) p in (
            [],
            taken_from is_taken (suc j) names,
            ap (λ z. z ∷ taken_from is_taken (suc j) names) first,
            tt,
            ap run
                (sym first) ∙ u ∙ ap (λ (g : F). Err g) same,
          )
