-- Lists without what passes a test, and members of lists.
use Rattle.std.proofs.Common.{◌≡◌, ◌⊎◌, inl, inr, Bool, true, false, not, cond, ◌||◌, List, [], ◌∷◌, ◌++◌, All, refl}
use Rattle.std.proofs.Common.{ap, subst, ◌∙◌, Some}
use Rattle.std.specs.List.{filter, find, list_any}
use Rattle.std.proofs.lemmas.List.Elements.{All-nil, All-cons, All-head, All-tail}

module _ {A : Type 0} where
  -- all but those that pass
  abbrev pub without : (A → Bool) → List A → List A
  without p xs = filter (λ x. not (p x)) xs

  pub without_both : (p q : A → Bool) (xs : List A) → without p (without q xs) ≡ without (λ x. q x || p x) xs
  without_both p q [] = refl
  without_both p q (x ∷ xs) = by (q x) refl (without_both p q xs)
    where
      by : (b : Bool) → q x ≡ b → without p (without q xs) ≡ without (λ y. q y || p y) xs
          → without p (without q (x ∷ xs)) ≡ without (λ y. q y || p y) (x ∷ xs)
      by true e later = rw e later
      by false e later = rw e (ap (λ (l : List A). cond (not (p x)) (x ∷ l) l) later)

  pub without_none : (p : A → Bool) (xs : List A) → All (λ x. p x ≡ false) xs → without p xs ≡ xs
  without_none p [] h = refl
  without_none p (x ∷ xs) h =
      ap (λ (b : Bool). cond (not b) (x ∷ without p xs) (without p xs)) (All-head (λ y. p y ≡ false) x xs h)
      ∙ ap (λ (l : List A). x ∷ l) (without_none p xs (All-tail (λ y. p y ≡ false) x xs h))

  -- it is a member
  abbrev pub IsIn : List A → A → Type 0
  IsIn [] x = ⊥
  IsIn (y ∷ ys) x = (y ≡ x) ⊎ IsIn ys x

  pub in_without : (p : A → Bool) (xs : List A) (x : A) → IsIn (without p xs) x → IsIn xs x × (p x ≡ false)
  in_without p [] x i = absurd i
  in_without p (y ∷ ys) x i = by (p y) refl (in_without p ys x) i
    where
      by : (b : Bool) → p y ≡ b → (IsIn (without p ys) x → IsIn ys x × (p x ≡ false))
          → IsIn (cond (not b) (y ∷ without p ys) (without p ys)) x → IsIn (y ∷ ys) x × (p x ≡ false)
      by true e later j = (inr (later j).0, (later j).1)
      by false e later (inl j) = (inl j, subst (λ (z : A). p z ≡ false) j e)
      by false e later (inr j) = (inr (later j).0, (later j).1)

  pub any_in : (p : A → Bool) (xs : List A) (x : A) → IsIn xs x → p x ≡ true → list_any p xs ≡ true
  any_in p [] x i h = absurd i
  any_in p (y ∷ ys) x (inl e) h = ap (λ (b : Bool). b || list_any p ys) (ap p e ∙ h)
  any_in p (y ∷ ys) x (inr i) h =
      (elim (p y) as (λ b. (b || list_any p ys) ≡ true) [
        | true ↦ refl
        | false ↦ any_in p ys x i h
      ])

  -- where one passes, it is one of them
  pub which_any : (p : A → Bool) (xs : List A) → list_any p xs ≡ true → (x : A) × IsIn xs x × (p x ≡ true)
  which_any p [] h = absurd cc
  which_any p (y ∷ ys) h = by (p y) refl (which_any p ys) h
    where
      by : (b : Bool) → p y ≡ b → (list_any p ys ≡ true → (x : A) × IsIn ys x × (p x ≡ true))
          → (b || list_any p ys) ≡ true → (x : A) × IsIn (y ∷ ys) x × (p x ≡ true)
      by true e later h = (y, inl refl, e)
      by false e later h = ((later h).0, inr (later h).1, (later h).2)

  pub without_same : (p q : A → Bool) (xs : List A) → ((x : A) → IsIn xs x → p x ≡ q x) → without p xs ≡ without q xs
  without_same p q [] h = refl
  without_same p q (x ∷ xs) h =
      ap (λ (b : Bool). cond (not b) (x ∷ without p xs) (without p xs)) (h x (inl refl))
      ∙ ap (λ (l : List A). cond (not (q x)) (x ∷ l) l) (without_same p q xs (λ y i. h y (inr i)))

  pub all_by : (P : A → Type 0) (xs : List A) → ((x : A) → IsIn xs x → P x) → All P xs
  all_by P [] h = All-nil P
  all_by P (x ∷ xs) h = All-cons P x xs (h x (inl refl)) (all_by P xs (λ y i. h y (inr i)))

  pub all_in : (P : A → Type 0) (xs : List A) (x : A) → All P xs → IsIn xs x → P x
  all_in P [] x h i = absurd i
  all_in P (y ∷ ys) x h (inl e) = subst P e (All-head P y ys h)
  all_in P (y ∷ ys) x h (inr i) = all_in P ys x (All-tail P y ys h) i

  pub found : (p : A → Bool) (xs : List A) (x : A) → find p xs ≡ Some x → IsIn xs x
  found p [] x h = absurd cc
  found p (y ∷ ys) x h =
      (elim (p y) as (λ b. cond b (Some y) (find p ys) ≡ Some x → IsIn (y ∷ ys) x) [
        | true ↦ λ k. inl cc
        | false ↦ λ k. inr (found p ys x k)
      ]) h

  pub in_push : (xs : List A) (y x : A) → IsIn (xs ++ y ∷ []) x → IsIn xs x ⊎ (y ≡ x)
  in_push [] y x (inl e) = inr e
  in_push [] y x (inr i) = absurd i
  in_push (z ∷ xs) y x (inl e) = inl (inl e)
  in_push (z ∷ xs) y x (inr i) =
      elim (in_push xs y x i) as (λ k. IsIn (z ∷ xs) x ⊎ (y ≡ x)) [
        | inl k ↦ inl (inr k)
        | inr k ↦ inr k
      ]
