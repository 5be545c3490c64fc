-- What is gathered from a journal, where one list alone has something of it.
use Rattle.std.proofs.Common.{◌≡◌, ℕ, Bool, true, false, cond, List, [], ◌∷◌, ◌++◌, Some, refl, sym, ap, ◌∙◌}
use Rattle.std.proofs.Common.{append_assoc}
use Rattle.std.specs.Prelude.{zero, suc, slice_get, filter}
use Rattle.std.specs.List.{flat_map}
use Rattle.turn_lock.specs.Kinds.{plain, AllFail, NoneHas, KeepsOrder}

-- ---- lists

abbrev has_some : {A : Type 0} → List A → Bool
has_some [] = false
has_some (x ∷ xs) = true

nothing : {A : Type 0} (l : List A) → has_some l ≡ false → l ≡ []
nothing [] e = refl
nothing (x ∷ xs) e = absurd cc

-- a list of one element has no other
pub only_one : {A : Type 0} (before after : List A) (a c : A) → before ++ a ∷ after ≡ c ∷ [] → a ≡ c
only_one [] after a c e = cc e
only_one (b ∷ []) after a c e = absurd (cc e)
only_one (b ∷ d ∷ before) after a c e = absurd (cc e)

-- ---- kinds

module _ {E : Type 0} where
  pub fails-append : (p : E → Bool) (xs ys : List (ℕ × E)) → AllFail p xs → AllFail p ys → AllFail p (xs ++ ys)
  fails-append p [] ys f g = g
  fails-append p (x ∷ xs) ys f g = (f.0, fails-append p xs ys f.1 g)

  pub none-append : (p : E → Bool) (ls ms : List (List (ℕ × E))) → NoneHas p ls → NoneHas p ms → NoneHas p (ls ++ ms)
  none-append p [] ms f g = g
  none-append p (l ∷ ls) ms f g = (f.0, none-append p ls ms f.1 g)

  -- a kind that is part of another
  pub fails_narrower : (p q : E → Bool) → ((e : E) → p e ≡ false → q e ≡ false) → (xs : List (ℕ × E)) → AllFail p xs
      → AllFail q xs
  fails_narrower p q h [] f = tt
  fails_narrower p q h (x ∷ xs) f = (h x.1 f.0, fails_narrower p q h xs f.1)

  pub none_narrower : (p q : E → Bool) → ((e : E) → p e ≡ false → q e ≡ false) → (ls : List (List (ℕ × E)))
      → NoneHas p ls → NoneHas q ls
  none_narrower p q h [] f = tt
  none_narrower p q h (l ∷ ls) f = (fails_narrower p q h l f.0, none_narrower p q h ls f.1)

  pub filter_fails : (p : E → Bool) (xs : List (ℕ × E)) → AllFail p xs → filter p (plain xs) ≡ []
  filter_fails p [] f = refl
  filter_fails p (x ∷ xs) f = ap (λ b. cond b (x.1 ∷ filter p (plain xs)) (filter p (plain xs))) f.0
      ∙ filter_fails p xs f.1

  -- ---- elements that a function gives something of

  abbrev pub gives : {A : Type 0} → (E → List A) → E → Bool
  gives f e = has_some (f e)

  pub gives_none : {A : Type 0} (f : E → List A) (e : E) → f e ≡ [] → gives f e ≡ false
  gives_none f e h = ap has_some h

  flat_map-filter : {A : Type 0} (f : E → List A) (xs : List E) → flat_map f xs ≡ flat_map f (filter (gives f) xs)
  flat_map-filter f [] = refl
  flat_map-filter f (x ∷ xs) = ap (λ l. f x ++ l) (flat_map-filter f xs) ∙ by_cases (gives f x) refl
    where
      by_cases : (b : Bool) → gives f x ≡ b → f x ++ flat_map f (filter (gives f) xs) ≡ flat_map f
          (cond b (x ∷ filter (gives f) xs) (filter (gives f) xs))
      by_cases true e = refl
      by_cases false e = ap (λ l. l ++ flat_map f (filter (gives f) xs)) (nothing (f x) e)

  -- what is gathered from a journal is what is gathered from the one list that has something of it
  pub gathered : {A : Type 0} (f : E → List A) (log : List E) (lists before after : List (List (ℕ × E)))
      (one : List (ℕ × E)) → KeepsOrder log lists
      → lists ≡ before ++ one ∷ after → NoneHas (gives f) before → NoneHas (gives f) after
      → flat_map f log ≡ flat_map f (plain one)
  gathered f log lists before after one order is nb na =
      flat_map-filter f log ∙ ap (flat_map f) (order (gives f) before after one is nb na)
      ∙ sym (flat_map-filter f (plain one))

  -- ---- elements at their places

  -- what is gathered has what an entry of the journal gives
  pub gathered_at : {A : Type 0} (f : E → List A) (log : List E) (k : ℕ) (e : E) → slice_get log k ≡ Some e
      → (before after : List A) × (flat_map f log ≡ before ++ (f e ++ after))
  gathered_at f [] k e at = absurd cc
  gathered_at f (x ∷ log) zero e at = ([], flat_map f log, ap (λ y. f y ++ flat_map f log) (let s : x ≡ e = cc at in s))
  gathered_at f (x ∷ log) (suc k) e at =
      let rest = gathered_at f log k e at in
      (f x ++ rest.0, rest.1, ap (λ l. f x ++ l) rest.2 ∙ sym (append_assoc (f x) rest.0 (f e ++ rest.1)))
