-- What a change of the slab leaves at the places of an order.
use Rattle.std.proofs.Common.{◌≡◌, ◌≢◌, ℕ, zero, suc, ◌<◌, ◌≤◌, Bool, true, false, cond, not, List, [], ◌∷◌, ◌++◌}
use Rattle.std.proofs.Common.{length, get_or, set, take, map, filter, Option, Some, None, refl, sym, ap, ◌∙◌, subst}
use Rattle.std.proofs.Common.{arith}
use Rattle.std.specs.Prelude.{IsSome, unwrap_or}
use Rattle.slab.specs.Slab.{Slab, get, Updates}
use Rattle.wait_queue.specs.declared.types.Asker.{Asker}
use Rattle.wait_queue.specs.declared.waiting_list.Waiting.{Waiting}
use Rattle.wait_queue.specs.declared.waiting_list.Place.{Place}
use Rattle.wait_queue.specs.Held.{waiting_at, is_kept, NotIn, AreHeld, SameOn, no_asker}
use Rattle.wait_queue.specs.Waiting.{is_here}

pub view-same : (s t : Slab Asker) (ps : List Place) → SameOn s t ps → map (waiting_at s) ps ≡ map (waiting_at t) ps
view-same s t [] h = refl
view-same s t (p ∷ ps) h = rw (h.0, view-same s t ps h.1)

pub SameOn-refl : (s : Slab Asker) (ps : List Place) → SameOn s s ps
SameOn-refl s [] = tt
SameOn-refl s (p ∷ ps) = (refl, SameOn-refl s ps)

pub SameOn-removed : (s s' t : Slab Asker) (key : ℕ) (slot : Option Asker) (ps : List Place) → Updates s s' key slot
    → NotIn key ps → SameOn s t ps → SameOn s' t ps
SameOn-removed s s' t key slot [] u n h = tt
SameOn-removed s s' t key slot (p ∷ ps) u n h =
    (u.others p.key n.0 ∙ h.0, SameOn-removed s s' t key slot ps u n.1 h.1)

pub AreHeld-same : (s t : Slab Asker) (ps : List Place) → SameOn s t ps → AreHeld t ps → AreHeld s ps
AreHeld-same s t [] h a = tt
AreHeld-same s t (p ∷ ps) h a =
    (subst IsSome (sym h.0) a.0, a.1, AreHeld-same s t ps h.1 a.2)

NotIn-filter : (key : ℕ) (ps : List Place) → NotIn key ps → NotIn key (filter is_kept ps)
NotIn-filter key [] h = tt
NotIn-filter key (p ∷ ps) h =
    elim p.gone as (λ g. NotIn key (cond (not g) (p ∷ filter is_kept ps) (filter is_kept ps)))
    [ true ↦ NotIn-filter key ps h.1 | false ↦ (h.0, NotIn-filter key ps h.1) ]

pub AreHeld-filter : (s : Slab Asker) (ps : List Place) → AreHeld s ps → AreHeld s (filter is_kept ps)
AreHeld-filter s [] a = tt
AreHeld-filter s (p ∷ ps) a =
    elim p.gone as (λ g. AreHeld s (cond (not g) (p ∷ filter is_kept ps) (filter is_kept ps)))
    [ true ↦ AreHeld-filter s ps a.2 | false ↦ (a.0, NotIn-filter p.key ps a.1, AreHeld-filter s ps a.2) ]

NotIn-take : (key n : ℕ) (ps : List Place) → NotIn key ps → NotIn key (take n ps)
NotIn-take key zero ps h = tt
NotIn-take key (suc n) [] h = tt
NotIn-take key (suc n) (p ∷ ps) h = (h.0, NotIn-take key n ps h.1)

pub AreHeld-take : (s : Slab Asker) (n : ℕ) (ps : List Place) → AreHeld s ps → AreHeld s (take n ps)
AreHeld-take s zero ps a = tt
AreHeld-take s (suc n) [] a = tt
AreHeld-take s (suc n) (p ∷ ps) a = (a.0, NotIn-take p.key n ps a.1, AreHeld-take s n ps a.2)

NotIn-at : (key : ℕ) (ps : List Place) (i : ℕ) (d : Place) → i < length ps → NotIn key ps → (get_or ps i d).key ≢ key
NotIn-at key [] i d l h = absurd (omega arith)
NotIn-at key (p ∷ ps) zero d l h = h.0
NotIn-at key (p ∷ ps) (suc i) d l h = NotIn-at key ps i d (omega arith) h.1

-- a place that is gone has no key of one that stays
pub gone_apart : (s : Slab Asker) (ps : List Place) (i : ℕ) (d : Place) → i < length ps → AreHeld s ps
    → (get_or ps i d).gone ≡ true → NotIn (get_or ps i d).key (filter is_kept ps)
gone_apart s [] i d l a g = absurd (omega arith)
gone_apart s (p ∷ ps) zero d l a g =
    let gone : p.gone ≡ true = g in
    subst (λ (b : Bool). NotIn p.key (cond (not b) (p ∷ filter is_kept ps) (filter is_kept ps))) (sym gone)
    (NotIn-filter p.key ps a.1)
gone_apart s (p ∷ ps) (suc i) d l a g =
    let later = gone_apart s ps i d (omega arith) a.2 g in
    let apart = NotIn-at p.key ps i d (omega arith) a.1 in
    elim p.gone as (λ b. NotIn (get_or ps i d).key (cond (not b) (p ∷ filter is_kept ps) (filter is_kept ps)))
    [ true ↦ later | false ↦ (λ e. apart (sym e), later) ]

-- a later place has no key of an earlier one
pub later_apart : (s : Slab Asker) (ps : List Place) (n i : ℕ) (d : Place) → n ≤ i → i < length ps → AreHeld s ps
    → NotIn (get_or ps i d).key (take n ps)
later_apart s ps zero i d m l a = tt
later_apart s [] (suc n) i d m l a = tt
later_apart s (p ∷ ps) (suc n) zero d m l a = absurd (omega arith)
later_apart s (p ∷ ps) (suc n) (suc i) d m l a =
    (λ e. NotIn-at p.key ps i d (omega arith) a.1 (sym e), later_apart s ps n i d (omega arith) (omega arith) a.2)

pub view-filter : (s : Slab Asker) (ps : List Place) → map (waiting_at s) (filter is_kept ps) ≡ filter is_here
    (map (waiting_at s) ps)
view-filter s [] = refl
view-filter s (p ∷ ps) =
    elim p.gone as (λ g. map (waiting_at s) (cond (not g) (p ∷ filter is_kept ps) (filter is_kept ps)) ≡ cond (not g)
    (waiting_at s p ∷ filter is_here (map (waiting_at s) ps)) (filter is_here (map (waiting_at s) ps)))
    [ true ↦ view-filter s ps | false ↦ ap (λ ws. waiting_at s p ∷ ws) (view-filter s ps) ]

not_some : IsSome {T = Asker} None → ⊥
not_some h = cc

-- a vacant key is at no place
pub vacant_apart : (s : Slab Asker) (key : ℕ) (ps : List Place) → get s key ≡ None → AreHeld s ps → NotIn key ps
vacant_apart s key [] v a = tt
vacant_apart s key (p ∷ ps) v a =
    (λ e. not_some (subst IsSome (ap (λ k. get s k) e ∙ v) a.0), vacant_apart s key ps v a.2)

pub NotIn-push : (key : ℕ) (ps : List Place) (q : Place) → NotIn key ps → q.key ≢ key → NotIn key (ps ++ q ∷ [])
NotIn-push key [] q h e = (e, tt)
NotIn-push key (p ∷ ps) q h e = (h.0, NotIn-push key ps q h.1 e)

pub AreHeld-push : (s : Slab Asker) (ps : List Place) (q : Place) → AreHeld s ps → NotIn q.key ps → IsSome (get s q.key)
    → AreHeld s (ps ++ q ∷ [])
AreHeld-push s [] q a n h = (h, tt, tt)
AreHeld-push s (p ∷ ps) q a n h =
    (a.0, NotIn-push p.key ps q a.1 (λ e. n.0 (sym e)), AreHeld-push s ps q a.2 n.1 h)

-- the key at a place of the order is held
pub held_at : (s : Slab Asker) (ps : List Place) (i : ℕ) (d : Place) → i < length ps → AreHeld s ps
    → IsSome (get s (get_or ps i d).key)
held_at s [] i d l a = absurd (omega arith)
held_at s (p ∷ ps) zero d l a = a.0
held_at s (p ∷ ps) (suc i) d l a = held_at s ps i d (omega arith) a.2

NotIn-set : (key : ℕ) (ps : List Place) (i : ℕ) (d q : Place) → q.key ≡ (get_or ps i d).key → NotIn key ps
    → NotIn key (set ps i q)
NotIn-set key [] i d q e h = tt
NotIn-set key (p ∷ ps) zero d q e h = (λ k. h.0 (sym e ∙ k), h.1)
NotIn-set key (p ∷ ps) (suc i) d q e h = (h.0, NotIn-set key ps i d q e h.1)

pub AreHeld-set : (s : Slab Asker) (ps : List Place) (i : ℕ) (d q : Place) → q.key ≡ (get_or ps i d).key → AreHeld s ps
    → AreHeld s (set ps i q)
AreHeld-set s [] i d q e a = tt
AreHeld-set s (p ∷ ps) zero d q e a =
    (subst (λ (k : ℕ). IsSome (get s k)) (sym e) a.0, subst (λ (k : ℕ). NotIn k ps) (sym e) a.1, a.2)
AreHeld-set s (p ∷ ps) (suc i) d q e a = (a.0, NotIn-set p.key ps i d q e a.1, AreHeld-set s ps i d q e a.2)

pub view-set : (s : Slab Asker) (ps : List Place) (i : ℕ) (d q : Place) (w : Waiting) → q.key ≡ (get_or ps i d).key
    → i < length ps → map (waiting_at s) (set ps i q) ≡ set (map (waiting_at s) ps) i
    (record { asker = (get_or (map (waiting_at s) ps) i w).asker; gone = q.gone })
view-set s [] i d q w e l = absurd (omega arith)
view-set s (p ∷ ps) zero d q w e l =
    ap (λ k. record { asker = unwrap_or (get s k) no_asker; gone = q.gone } ∷ map (waiting_at s) ps) e
view-set s (p ∷ ps) (suc i) d q w e l = ap (λ ws. waiting_at s p ∷ ws) (view-set s ps i d q w e (omega arith))

pub view-at : (s : Slab Asker) (ps : List Place) (i : ℕ) (d : Place) (w : Waiting) → i < length ps
    → get_or (map (waiting_at s) ps) i w ≡ waiting_at s (get_or ps i d)
view-at s [] i d w l = absurd (omega arith)
view-at s (p ∷ ps) zero d w l = refl
view-at s (p ∷ ps) (suc i) d w l = view-at s ps i d w (omega arith)

pub view-inserted : (s t : Slab Asker) (ps : List Place) (key : ℕ) (a : Asker) → Updates s t key (Some a) → NotIn key ps
    → map (waiting_at t) (ps ++ record { key = key; gone = false } ∷ []) ≡ map (waiting_at s) ps
    ++ record { asker = a; gone = false } ∷ []
view-inserted s t [] key a u n = ap (λ o. record { asker = unwrap_or o no_asker; gone = false } ∷ []) u.changed
view-inserted s t (p ∷ ps) key a u n =
    rw (u.others p.key n.0) (ap (λ ws. waiting_at s p ∷ ws) (view-inserted s t ps key a u n.1))

pub not_vacant : (s : Slab Asker) (ps : List Place) (i : ℕ) (d : Place) → i < length ps → AreHeld s ps
    → d ≡ get_or ps i d → get s d.key ≡ None → ⊥
not_vacant s ps i d l a r e =
    not_some (subst IsSome (ap (λ (p : Place). get s p.key) (sym r) ∙ e) (held_at s ps i d l a))

-- after an insert at a vacant key
pub AreHeld-inserted : (s t : Slab Asker) (ps qs : List Place) (key : ℕ) (a : Asker)
    → qs ≡ ps ++ record { key = key; gone = false } ∷ [] → get s key ≡ None → Updates s t key (Some a) → AreHeld s ps
    → AreHeld t qs
AreHeld-inserted s t ps qs key a e v u h =
    let apart = vacant_apart s key ps v h in
    let same = SameOn-removed s t s key (Some a) ps u apart (SameOn-refl s ps) in
    rw e (AreHeld-push t ps (record { key = key; gone = false }) (AreHeld-same t s ps same h) apart
    (subst IsSome (sym u.changed) refl))

pub view-insert : (s t : Slab Asker) (ps qs : List Place) (key : ℕ) (a : Asker)
    → qs ≡ ps ++ record { key = key; gone = false } ∷ [] → get s key ≡ None → Updates s t key (Some a) → AreHeld s ps
    → map (waiting_at t) qs ≡ map (waiting_at s) ps ++ record { asker = a; gone = false } ∷ []
view-insert s t ps qs key a e v u h = rw e (view-inserted s t ps key a u (vacant_apart s key ps v h))
