-- Lists of waiting reads, and what is found in them.
use Rattle.std.proofs.Common.{◌≡◌, suc, ◌&&◌, ◌||◌, Bool, true, false, cond, List, [], ◌∷◌, ◌++◌, length, find, Some}
use Rattle.std.proofs.Common.{None, refl, sym, ap, ◌∙◌}
use Rattle.std.specs.List.{list_all, list_any, filter}
use Rattle.acme_watch.specs.Reads.{without_first}
use Rattle.acme_watch.specs.declared.types.WatchRead.{WatchRead}

-- ---- tests

pub first_true : (a b : Bool) → (a && b) ≡ true → a ≡ true
first_true true b h = refl
first_true false b h = h

pub second_true : (a b : Bool) → (a && b) ≡ true → b ≡ true
second_true true b h = h
second_true false b h = cc

pub both_true : (a b : Bool) → a ≡ true → b ≡ true → (a && b) ≡ true
both_true true b h k = k
both_true false b h k = h

-- ---- all

pub all_weaker : (p q : WatchRead → Bool) (rs : List WatchRead) → ((r : WatchRead) → p r ≡ true → q r ≡ true)
    → list_all p rs ≡ true → list_all q rs ≡ true
all_weaker p q [] h a = refl
all_weaker p q (r ∷ rs) h a =
    both_true (q r) (list_all q rs) (h r (first_true (p r) (list_all p rs) a))
    (all_weaker p q rs h (second_true (p r) (list_all p rs) a))

pub all_filter : (p t : WatchRead → Bool) (rs : List WatchRead) → list_all p rs ≡ true
    → list_all p (filter t rs) ≡ true
all_filter p t [] a = refl
all_filter p t (r ∷ rs) a =
    let one : p r ≡ true = first_true (p r) (list_all p rs) a in
    let more : list_all p (filter t rs) ≡ true = all_filter p t rs (second_true (p r) (list_all p rs) a) in
    elim (t r) as (λ b. list_all p (cond b (r ∷ filter t rs) (filter t rs)) ≡ true) [
      | true ↦ both_true (p r) (list_all p (filter t rs)) one more
      | false ↦ more
    ]

pub all_push : (p : WatchRead → Bool) (rs : List WatchRead) (r : WatchRead) → p r ≡ true → list_all p rs ≡ true
    → list_all p (rs ++ r ∷ []) ≡ true
all_push p [] r h a = both_true (p r) true h refl
all_push p (x ∷ rs) r h a =
    both_true (p x) (list_all p (rs ++ r ∷ [])) (first_true (p x) (list_all p rs) a)
    (all_push p rs r h (second_true (p x) (list_all p rs) a))

pub all_without_first : (p t : WatchRead → Bool) (rs : List WatchRead) → list_all p rs ≡ true
    → list_all p (without_first t rs) ≡ true
all_without_first p t [] a = refl
all_without_first p t (r ∷ rs) a =
    let one : p r ≡ true = first_true (p r) (list_all p rs) a in
    let rest : list_all p rs ≡ true = second_true (p r) (list_all p rs) a in
    elim (t r) as (λ b. list_all p (cond b rs (r ∷ without_first t rs)) ≡ true) [
      | true ↦ rest
      | false ↦ both_true (p r) (list_all p (without_first t rs)) one (all_without_first p t rs rest)
    ]

-- ---- the first one

pub found_all : (t p : WatchRead → Bool) (rs : List WatchRead) (r : WatchRead) → list_all p rs ≡ true
    → find t rs ≡ Some r → p r ≡ true
found_all t p [] r a h = cc
found_all t p (x ∷ rs) r a h =
    (elim (t x) as (λ b. cond b (Some x) (find t rs) ≡ Some r → p r ≡ true) [
      | true ↦ λ f. let same : x ≡ r = cc in sym (ap p same) ∙ first_true (p x) (list_all p rs) a
      | false ↦ λ f. found_all t p rs r (second_true (p x) (list_all p rs) a) f
    ]) h

pub found_less : (t : WatchRead → Bool) (rs : List WatchRead) (r : WatchRead) → find t rs ≡ Some r
    → length rs ≡ suc (length (without_first t rs))
found_less t [] r h = cc
found_less t (x ∷ rs) r h =
    (elim (t x) as (λ b. cond b (Some x) (find t rs) ≡ Some r → suc (length rs)
    ≡ suc (length (cond b rs (x ∷ without_first t rs)))) [
      | true ↦ λ k. refl
      | false ↦ λ k. ap suc (found_less t rs r k)
    ]) h

-- where a search finds none among such reads, another one finds none either
pub find_still : (p t u : WatchRead → Bool) (rs : List WatchRead)
    → ((r : WatchRead) → p r ≡ true → t r ≡ false → u r ≡ false)
    → list_all p rs ≡ true → find t rs ≡ None → find u rs ≡ None
find_still p t u [] h a e = refl
find_still p t u (r ∷ rs) h a e =
    (elim (t r) as (λ b. t r ≡ b → cond b (Some r) (find t rs) ≡ None → find u (r ∷ rs) ≡ None) [
      | true ↦ λ g l. cc
      | false ↦ λ g l. ap (λ b. cond b (Some r) (find u rs)) (h r (first_true (p r) (list_all p rs) a) g)
          ∙ find_still p t u rs h (second_true (p r) (list_all p rs) a) l
    ]) refl e

-- nor among those that are left
pub find_left : (t u s : WatchRead → Bool) (rs : List WatchRead)
    → ((r : WatchRead) → s r ≡ true → t r ≡ false → u r ≡ false)
    → find t rs ≡ None → find u (filter s rs) ≡ None
find_left t u s [] h e = refl
find_left t u s (r ∷ rs) h e =
    (elim (t r) as (λ b. t r ≡ b → cond b (Some r) (find t rs) ≡ None → find u (filter s (r ∷ rs)) ≡ None) [
      | true ↦ λ g l. cc
      | false ↦ λ g l.
          (elim (s r) as (λ b. s r ≡ b → find u (cond b (r ∷ filter s rs) (filter s rs)) ≡ None) [
            | true ↦ λ f. ap (λ b. cond b (Some r) (find u (filter s rs))) (h r f g) ∙ find_left t u s rs h l
            | false ↦ λ f. find_left t u s rs h l
          ]) refl
    ]) refl e

pub find_push : (t : WatchRead → Bool) (rs : List WatchRead) (r : WatchRead) → t r ≡ false → find t rs ≡ None
    → find t (rs ++ r ∷ []) ≡ None
find_push t [] r h e = ap (λ b. cond b (Some r) None) h
find_push t (x ∷ rs) r h e =
    (elim (t x) as (λ b. cond b (Some x) (find t rs) ≡ None → cond b (Some x) (find t (rs ++ r ∷ [])) ≡ None) [
      | true ↦ λ k. k
      | false ↦ λ k. find_push t rs r h k
    ]) e

-- one of a list that isn't its last one
pub any_before : {X : Type 0} (p : X → Bool) (xs : List X) (x : X) → p x ≡ false → list_any p (xs ++ x ∷ []) ≡ true
    → list_any p xs ≡ true
any_before p [] x h k = sym (ap (λ b. b || false) h) ∙ k
any_before p (y ∷ xs) x h k =
    (elim (p y) as (λ b. (b || list_any p (xs ++ x ∷ [])) ≡ true → (b || list_any p xs) ≡ true) [
      | true ↦ λ l. refl
      | false ↦ λ l. any_before p xs x h l
    ]) k
