-- Plans, window by window.
use Rattle.std.proofs.Common.{◌≡◌, ℕ, zero, suc, ◌+◌, ◌<◌, ◌≤◌, Bool, List, [], ◌∷◌, ◌++◌, length, get_or}
use Rattle.std.proofs.Common.{drop, Option, Some, None, refl, sym, ap, subst, ◌∙◌, arith, append_assoc}
use Rattle.std.proofs.lemmas.List.{append-nil}
use Rattle.std.specs.Prelude.{Result, Ok, Err, IfSome}
use Rattle.edit_files.specs.Across.{behind, told_here, plan_list, and_then, plans_from, AllSuit}

drop-at : {X : Type 0} (xs : List X) (k : ℕ) (d : X) → k < length xs → drop k xs ≡ get_or xs k d ∷ drop (suc k) xs
drop-at [] k d l = absurd (omega (arith, l))
drop-at (x ∷ xs) zero d l = refl
drop-at (x ∷ xs) (suc k) d l = drop-at xs k d (omega (arith, l))

drop-all : {X : Type 0} (xs : List X) (k : ℕ) → length xs ≤ k → drop k xs ≡ []
drop-all [] zero l = refl
drop-all [] (suc k) l = refl
drop-all (x ∷ xs) zero l = absurd (omega (arith, l))
drop-all (x ∷ xs) (suc k) l = drop-all xs k (omega (arith, l))

module _ {P : Type 0} where
  suit_both : (suits : ℕ → P → Type 0) (xs ys : List (ℕ × P)) → AllSuit suits xs → AllSuit suits ys
      → AllSuit suits (xs ++ ys)
  suit_both suits [] ys h i = i
  suit_both suits (x ∷ xs) ys h i = (h.0, suit_both suits xs ys h.1 i)

  suits_alone : (suits : ℕ → P → Type 0) (k : ℕ) (plan : Option P) → IfSome plan (suits k)
      → AllSuit suits (plan_list k plan)
  suits_alone suits k None h = tt
  suits_alone suits k (Some p) h = (h, tt)

  -- what is known of the plan of one window more
  pub all_suit : (suits : ℕ → P → Type 0) (k : ℕ) (all more : List (ℕ × P)) (plan : Option P)
      → more ≡ all ++ plan_list k plan → IfSome plan (suits k) → AllSuit suits all → AllSuit suits more
  all_suit suits k all more plan m h i =
      subst (λ (ps : List (ℕ × P)). AllSuit suits ps) (sym m) (suit_both suits all (plan_list k plan) i
      (suits_alone suits k plan h))

module _ {P F : Type 0} where
  behind_more : (xs ys : List (ℕ × P)) (r : Result (List (ℕ × P)) (ℕ × F)) →
      behind xs (behind ys r) ≡ behind (xs ++ ys) r
  behind_more xs ys (Ok later) = ap Ok (sym (append_assoc xs ys later))
  behind_more xs ys (Err f) = refl

  -- one window more
  pub next_plan : (run : ℕ → Result P F) (is_taken : List ℕ → Bool) (names : List (List ℕ)) (k : ℕ)
      (all more : List (ℕ × P)) (plan : Option P) (whole : Result (List (ℕ × P)) (ℕ × F)) → k < length names →
      told_here k (run k) (is_taken (get_or names k [])) ≡ Ok plan → more ≡ all ++ plan_list k plan →
      behind all (plans_from run is_taken k (drop k names)) ≡ whole → behind more
      (plans_from run is_taken (k + 1) (drop (k + 1) names)) ≡ whole
  next_plan run is_taken names k all more plan whole l t m w =
      let next : k + 1 ≡ suc k = omega arith in
      ap (λ (ps : List (ℕ × P)). behind ps (plans_from run is_taken (k + 1) (drop (k + 1) names))) m
      ∙ ap (λ n. behind (all ++ plan_list k plan) (plans_from run is_taken n (drop n names))) next
      ∙ sym (behind_more all (plan_list k plan) (plans_from run is_taken (suc k) (drop (suc k) names)))
      ∙ ap (λ (r : Result (Option P) (ℕ × F)). behind all (and_then k r
      (plans_from run is_taken (suc k) (drop (suc k) names)))) (sym t)
      ∙ ap (λ (ns : List (List ℕ)). behind all (plans_from run is_taken k ns)) (sym (drop-at names k [] l))
      ∙ w

  -- a window at fault
  pub first_fault : (run : ℕ → Result P F) (is_taken : List ℕ → Bool) (names : List (List ℕ)) (k : ℕ)
      (all : List (ℕ × P)) (f : ℕ × F) (whole : Result (List (ℕ × P)) (ℕ × F)) → k < length names →
      told_here k (run k) (is_taken (get_or names k [])) ≡ Err f → behind all
      (plans_from run is_taken k (drop k names)) ≡ whole → whole ≡ Err f
  first_fault run is_taken names k all f whole l t w =
      sym w
      ∙ ap (λ (ns : List (List ℕ)). behind all (plans_from run is_taken k ns)) (drop-at names k [] l)
      ∙ ap (λ (r : Result (Option P) (ℕ × F)). behind all (and_then k r
      (plans_from run is_taken (suc k) (drop (suc k) names)))) t

  -- no window is left
  pub all_plans : (run : ℕ → Result P F) (is_taken : List ℕ → Bool) (names : List (List ℕ)) (k : ℕ) (all : List (ℕ × P))
      (whole : Result (List (ℕ × P)) (ℕ × F)) → length names ≤ k → behind all
      (plans_from run is_taken k (drop k names)) ≡ whole → whole ≡ Ok all
  all_plans run is_taken names k all whole l w =
      sym w ∙ ap (λ (ns : List (List ℕ)). behind all (plans_from run is_taken k ns)) (drop-all names k l)
      ∙ ap Ok (append-nil all)
