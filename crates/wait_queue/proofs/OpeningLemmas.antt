-- What the first opening with a number shows, and what changing it changes.
use Rattle.std.proofs.Common.{◌≡◌, ℕ, zero, suc, ◌+◌, ◌<◌, ◌≤◌, ◌||◌, true, false, cond, not, List, [], ◌∷◌, ◌++◌}
use Rattle.std.proofs.Common.{length, get_or, set, take, drop, map, filter, Some, None, refl, sym, ap, ◌∙◌, arith}
use Rattle.std.proofs.Common.{add-one, length-take, take_all}
use Rattle.std.proofs.lemmas.List.{length-map}
use Rattle.std.proofs.lemmas.Bool.Decides.{nat_tests}
use Rattle.std.proofs.lemmas.List.Quantifiers.{position-Some}
use Rattle.std.proofs.lemmas.List.Sums.{fails_before_first}
use Rattle.std.specs.List.{position, list_any}
use Rattle.am_text.specs.Twice.{Twice, both}
use Rattle.wait_queue.specs.Carry.{OpenCarry, carry_of, set_carry, without_opening, emptied, is_of}
use Rattle.wait_queue.specs.Openings.{present_of, kept_of, has_id, with_present, with_kept, with_none}
use Rattle.wait_queue.specs.declared.carries.Opening.{Opening}

-- none is found, so none has the number
pub none_has_id : (os : List Opening) (id : ℕ) → position (has_id id) os ≡ None → (k : ℕ) (d : Opening) → k < length os
    → has_id id (get_or os k d) ≡ false
none_has_id os id h k d l =
    fails_before_first (has_id id) os k d (grind (arith, nat_tests))

carry_missing : (os : List Opening) (id : ℕ) → ((k : ℕ) (d : Opening) → k < length os
    → has_id id (get_or os k d) ≡ false) → carry_of (map present_of os) id ≡ []
carry_missing [] id h = refl
carry_missing (o ∷ os) id h = rw (h 0 o (omega arith)) (carry_missing os id (λ k d l. h (suc k) d (omega arith)))

pub carry_of-none : (os : List Opening) (id : ℕ) → position (has_id id) os ≡ None → carry_of (map present_of os) id ≡ []
carry_of-none os id h = carry_missing os id (none_has_id os id h)

set_missing : (os : List Opening) (id : ℕ) (b : List ℕ) → ((k : ℕ) (d : Opening) → k < length os
    → has_id id (get_or os k d) ≡ false) → set_carry (map present_of os) id b ≡ map present_of os
set_missing [] id b h = refl
set_missing (o ∷ os) id b h = rw (h 0 o (omega arith)) (ap (λ cs. present_of o ∷ cs)
    (set_missing os id b (λ k d l. h (suc k) d (omega arith))))

pub set_carry-none : (os : List Opening) (id : ℕ) (b : List ℕ) → position (has_id id) os ≡ None →
    set_carry (map present_of os) id b ≡ map present_of os
set_carry-none os id b h = set_missing os id b (none_has_id os id h)

carry_found : (os : List Opening) (id k : ℕ) (d : Opening) → k < length os
    → has_id id (get_or os k d) ≡ true → ((j : ℕ) → j < k → has_id id (get_or os j d) ≡ false)
    → carry_of (map present_of os) id ≡ (get_or os k d).carry.present
carry_found [] id k d l t f = absurd (omega arith)
carry_found (o ∷ os) id zero d l t f = rw t
carry_found (o ∷ os) id (suc k) d l t f = rw (f 0 (omega arith)) (carry_found os id k d (omega arith) t
    (λ j h. f (suc j) (omega arith)))

pub carry_of-some : (os : List Opening) (id k : ℕ) (d : Opening) → position (has_id id) os ≡ Some k
    → carry_of (map present_of os) id ≡ (get_or os k d).carry.present
carry_of-some os id k d h =
    let p = position-Some (has_id id) os k d h in carry_found os id k d p.0 p.1 p.2

set_found : (os : List Opening) (id k : ℕ) (d o' : Opening) → k < length os
    → has_id id (get_or os k d) ≡ true → ((j : ℕ) → j < k → has_id id (get_or os j d) ≡ false)
    → o'.id ≡ id → set_carry (map present_of os) id o'.carry.present ≡ map present_of (set os k o')
set_found [] id k d o' l t f e = absurd (omega arith)
set_found (o ∷ os) id zero d o' l t f e = rw (t, e)
set_found (o ∷ os) id (suc k) d o' l t f e =
    rw (f 0 (omega arith))
    (ap (λ cs. present_of o ∷ cs) (set_found os id k d o' (omega arith) t (λ j h. f (suc j) (omega arith)) e))

pub set_carry-some : (os : List Opening) (id k : ℕ) (d o' : Opening) → position (has_id id) os ≡ Some k
    → o'.id ≡ (get_or os k d).id → set_carry (map present_of os) id o'.carry.present ≡ map present_of (set os k o')
set_carry-some os id k d o' h e =
    let p = position-Some (has_id id) os k d h in
    let same : o'.id ≡ id = grind (arith, nat_tests) in
    set_found os id k d o' p.0 p.1 p.2 same

-- a change that the kept state does not show
module _ {X Y : Type 0} where
  pub map-take-set : (f : X → Y) (xs : List X) (n k : ℕ) (d y : X) → f y ≡ f (get_or xs k d)
      → map f (take n (set xs k y)) ≡ map f (take n xs)
  map-take-set f [] n k d y e = refl
  map-take-set f (x ∷ xs) zero k d y e = refl
  map-take-set f (x ∷ xs) (suc n) zero d y e = ap (λ z. z ∷ map f (take n xs)) e
  map-take-set f (x ∷ xs) (suc n) (suc k) d y e = ap (λ zs. f x ∷ zs) (map-take-set f xs n k d y e)

-- the code's view after a change of the first opening with the number
pub changed : (os : List Opening) (n id k : ℕ) (d o' : Opening) (b : List ℕ) → position (has_id id) os ≡ Some k
    → d ≡ get_or os k d → o' ≡ record { id = d.id; carry = record { present = b; kept = d.carry.kept } }
    → ◌≡◌ {A = Twice (List OpenCarry)} (record {
      present = map present_of (set os k o');
      kept = map kept_of
          (take n (set os k o'));
    }) (record { present = set_carry (map present_of os) id b; kept = map kept_of (take n os) })
changed os n id k d o' b h r e =
    let there : o'.id ≡ (get_or os k d).id = ap (λ (o : Opening). o.id) e ∙ ap (λ (o : Opening). o.id) r in
    let same : kept_of o' ≡ kept_of (get_or os k d) = ap kept_of e ∙ ap kept_of r in
    let new : o'.carry.present ≡ b = ap (λ (o : Opening). o.carry.present) e in
    let front : map present_of (set os k o') ≡ set_carry (map present_of os) id b =
    sym (set_carry-some os id k d o' h there) ∙ ap (set_carry (map present_of os) id) new
    in
    rw (front, map-take-set kept_of os n k d o' same)

pub unchanged : (os : List Opening) (n id : ℕ) (b : List ℕ) → position (has_id id) os ≡ None → ◌≡◌
    {A = Twice (List OpenCarry)} (record { present = map present_of os; kept = map kept_of (take n os) })
    (record { present = set_carry (map present_of os) id b; kept = map kept_of (take n os) })
unchanged os n id b h = rw (set_carry-none os id b h)

-- a change of each in its place, one step on
module _ {X : Type 0} where
  at_place : (f : X → X) (xs : List X) (i : ℕ) (d : X) → get_or (map f (take i xs) ++ drop i xs) i d ≡ get_or xs i d
  at_place f [] zero d = refl
  at_place f [] (suc i) d = refl
  at_place f (x ∷ xs) zero d = refl
  at_place f (x ∷ xs) (suc i) d = at_place f xs i d

  set_place : (f : X → X) (xs : List X) (i : ℕ) (d y : X) → i < length xs → y ≡ f (get_or xs i d)
      → set (map f (take i xs) ++ drop i xs) i y ≡ map f (take (suc i) xs) ++ drop (suc i) xs
  set_place f [] i d y l e = absurd (omega arith)
  set_place f (x ∷ xs) zero d y l e = ap (λ z. z ∷ xs) e
  set_place f (x ∷ xs) (suc i) d y l e = ap (λ zs. f x ∷ zs) (set_place f xs i d y (omega arith) e)

  pub length-partly : (f : X → X) (xs : List X) (i : ℕ) → length (map f (take i xs) ++ drop i xs) ≡ length xs
  length-partly f [] zero = refl
  length-partly f [] (suc i) = refl
  length-partly f (x ∷ xs) zero = refl
  length-partly f (x ∷ xs) (suc i) = ap suc (length-partly f xs i)

  pub each_changed : (f : X → X) (old xs : List X) (i : ℕ) (d y : X) → xs ≡ map f (take i old) ++ drop i old
      → i < length old → y ≡ f (get_or xs i d) → set xs i y ≡ map f (take (i + 1) old) ++ drop (i + 1) old
  each_changed f old xs i d y e l n =
      rw (add-one, e) (set_place f old i d y l (n ∙ ap f (ap (λ zs. get_or zs i d) e ∙ at_place f old i d)))

pub present-with_present : (os : List Opening) → map present_of (map with_present os) ≡ map present_of os
present-with_present [] = refl
present-with_present (o ∷ os) = ap (λ cs. present_of o ∷ cs) (present-with_present os)

pub kept-with_present : (os : List Opening) → map kept_of (map with_present os) ≡ map present_of os
kept-with_present [] = refl
kept-with_present (o ∷ os) = ap (λ cs. present_of o ∷ cs) (kept-with_present os)

pub present-with_kept : (os : List Opening) → map present_of (map with_kept os) ≡ map kept_of os
present-with_kept [] = refl
present-with_kept (o ∷ os) = ap (λ cs. kept_of o ∷ cs) (present-with_kept os)

pub kept-with_kept : (os : List Opening) → map kept_of (map with_kept os) ≡ map kept_of os
kept-with_kept [] = refl
kept-with_kept (o ∷ os) = ap (λ cs. kept_of o ∷ cs) (kept-with_kept os)

pub carry_of-read : (os : List Opening) (id k : ℕ) (d : Opening) → position (has_id id) os ≡ Some k → d ≡ get_or os k d
    → carry_of (map present_of os) id ≡ d.carry.present
carry_of-read os id k d h r = carry_of-some os id k d h ∙ sym (ap (λ (o : Opening). o.carry.present) r)

-- the code's view where each carry was kept, or went back
pub all_kept : (os ws : List Opening) (n : ℕ) → ws ≡ map with_present os → length ws ≤ n
    → ◌≡◌ {A = Twice (List OpenCarry)} (record { present = map present_of ws; kept = map kept_of (take n ws) })
    (both (map present_of os))
all_kept os ws n e l = rw (take_all n ws l, e, present-with_present os, kept-with_present os)

pub all_back : (os ws : List Opening) (n : ℕ) → ws ≡ map with_kept os → length ws ≤ n
    → ◌≡◌ {A = Twice (List OpenCarry)} (record { present = map present_of ws; kept = map kept_of (take n ws) })
    (both (map kept_of os))
all_back os ws n e l = rw (take_all n ws l, e, present-with_kept os, kept-with_kept os)

present-filter : (os : List Opening) (id : ℕ) → map present_of (filter (λ o. not (has_id id o)) os)
    ≡ without_opening (map present_of os) id
present-filter [] id = refl
present-filter (o ∷ os) id =
    elim (has_id id o) as (λ b. map present_of (cond (not b) (o ∷ filter (λ o. not (has_id id o)) os)
    (filter (λ o. not (has_id id o)) os)) ≡ cond (not b) (present_of o ∷ without_opening (map present_of os) id)
    (without_opening (map present_of os) id))
    [ true ↦ present-filter os id | false ↦ ap (λ cs. present_of o ∷ cs) (present-filter os id) ]

kept-filter : (os : List Opening) (id : ℕ) → map kept_of (filter (λ o. not (has_id id o)) os)
    ≡ without_opening (map kept_of os) id
kept-filter [] id = refl
kept-filter (o ∷ os) id =
    elim (has_id id o) as (λ b. map kept_of (cond (not b) (o ∷ filter (λ o. not (has_id id o)) os)
    (filter (λ o. not (has_id id o)) os)) ≡ cond (not b) (kept_of o ∷ without_opening (map kept_of os) id)
    (without_opening (map kept_of os) id))
    [ true ↦ kept-filter os id | false ↦ ap (λ cs. kept_of o ∷ cs) (kept-filter os id) ]

-- where both states are equal, all openings are kept
steady_kept : (os : List Opening) (n : ℕ) → map present_of os ≡ map kept_of (take n os)
    → map kept_of os ≡ map present_of os
steady_kept os n e =
    let long : length os ≤ n = omega (
      arith,
      ap length e,
      length-map os present_of,
      length-map (take n os) kept_of,
      length-take n os,
    ) in
    ap (map kept_of) (sym (take_all n os long)) ∙ sym e

pub all_without : (os ws : List Opening) (id n m : ℕ) → map present_of os ≡ map kept_of (take n os)
    → ws ≡ filter (λ o. not (has_id id o)) os → length ws ≤ m → ◌≡◌ {A = Twice (List OpenCarry)}
    (record { present = map present_of ws; kept = map kept_of (take m ws) })
    (both (without_opening (map present_of os) id))
all_without os ws id n m s e l =
    rw (take_all m ws l, e, present-filter os id, kept-filter os id, steady_kept os n s)

present-with_none : (os : List Opening) → map present_of (map with_none os) ≡ map emptied (map present_of os)
present-with_none [] = refl
present-with_none (o ∷ os) = ap (λ cs. emptied (present_of o) ∷ cs) (present-with_none os)

kept-with_none : (os : List Opening) → map kept_of (map with_none os) ≡ map emptied (map present_of os)
kept-with_none [] = refl
kept-with_none (o ∷ os) = ap (λ cs. emptied (present_of o) ∷ cs) (kept-with_none os)

-- the code's view where no opening has anything left
pub all_none : (os ws : List Opening) (n : ℕ) → ws ≡ map with_none os → length ws ≤ n
    → ◌≡◌ {A = Twice (List OpenCarry)} (record { present = map present_of ws; kept = map kept_of (take n ws) })
    (both (map emptied (map present_of os)))
all_none os ws n e l = rw (take_all n ws l, e, present-with_none os, kept-with_none os)

pub any-present : (os : List Opening) (id : ℕ) → list_any (has_id id) os ≡ list_any (is_of id) (map present_of os)
any-present [] id = refl
any-present (o ∷ os) id = ap (λ b. has_id id o || b) (any-present os id)
