-- What putting, taking and restoring a fid make of the fids of one connection.
use Rattle.std.proofs.Common.{◌≡◌, ◌≢◌, ◌==◌, ℕ, Bool, true, false, cond, List, [], ◌∷◌, Some, None, nat_eq, refl, sym}
use Rattle.std.proofs.Common.{ap, subst, ◌∙◌, if◌then◌else◌}
use Rattle.std.proofs.lemmas.Bool.{eqb-true, eq-eqb, ne_eqb}
use Rattle.std.specs.List.{IsDistinct, AllByRecursion}
use Rattle.std.specs.Map.{keys_of, lookup, remove_entry, set_value}
use Rattle.indexmap.specs.IndexMap.{insert_entry}
use Rattle.fid_table.specs.Fids.{with_fid, without_fid, AreDistinct}
use Rattle.fid_table.specs.declared.types.Fid.{Fid}

-- what the map inserts
pub inserted : (fs : List (ℕ × Fid)) (fid : ℕ) (value : Fid) → insert_entry nat_eq fs fid value ≡ with_fid fs fid value
inserted [] fid value = refl
inserted (f ∷ fs) fid value = ap (λ r. if fid == f.0 then (f.0, value) ∷ fs else f ∷ r) (inserted fs fid value)

-- a number that isn't there is nowhere left out
absent_stays : (fs : List (ℕ × Fid)) (k : ℕ) → AllByRecursion (λ y. nat_eq k y ≡ false) (keys_of fs)
    → without_fid fs k ≡ fs
absent_stays [] k h = refl
absent_stays (f ∷ fs) k h = rw (h.0) (ap (λ r. f ∷ r) (absent_stays fs k h.1))

-- what the map removes, where each number is there once
pub removed : (fs : List (ℕ × Fid)) (fid : ℕ) → AreDistinct fs → remove_entry (nat_eq fid) fs ≡ without_fid fs fid
unfolding IsDistinct
removed [] fid h = refl
removed (f ∷ fs) fid h = by (fid == f.0) refl (removed fs fid h.1)
  where
    by : (b : Bool) → (fid == f.0) ≡ b → remove_entry (nat_eq fid) fs ≡ without_fid fs fid
        → remove_entry (nat_eq fid) (f ∷ fs) ≡ without_fid (f ∷ fs) fid
    by true e later = rw e (sym (subst (λ k. without_fid fs k ≡ fs) (sym (eqb-true fid f.0 e))
        (absent_stays fs f.0 h.0)))
    by false e later = rw e (ap (λ r. f ∷ r) later)

-- putting a fid whose number isn't in use, and taking it out again
pub put_taken : (fs : List (ℕ × Fid)) (fid : ℕ) (value : Fid) → lookup (nat_eq fid) fs ≡ None →
    without_fid (with_fid fs fid value) fid ≡ fs
put_taken [] fid value h = rw (eq-eqb fid fid refl)
put_taken (f ∷ fs) fid value h = by (fid == f.0) refl (λ g. put_taken fs fid value g)
  where
    by : (b : Bool) → (fid == f.0) ≡ b → (lookup (nat_eq fid) fs ≡ None → without_fid (with_fid fs fid value) fid ≡ fs)
        → without_fid (with_fid (f ∷ fs) fid value) fid ≡ f ∷ fs
    by true e later = let found : Some f.1 ≡ None = rw e at h in cc
    by false e later = rw (e, e) (ap (λ r. f ∷ r) (later (rw e at h)))

-- putting a fid in the place of another, and setting that one again
pub put_restored : (fs : List (ℕ × Fid)) (fid : ℕ) (value old : Fid) → lookup (nat_eq fid) fs ≡ Some old
    → set_value (nat_eq fid) (with_fid fs fid value) old ≡ fs
put_restored [] fid value old h = cc
put_restored (f ∷ fs) fid value old h = by (fid == f.0) refl (λ g. put_restored fs fid value old g)
  where
    by : (b : Bool) → (fid == f.0) ≡ b → (lookup (nat_eq fid) fs ≡ Some old
        → set_value (nat_eq fid) (with_fid fs fid value) old ≡ fs)
        → set_value (nat_eq fid) (with_fid (f ∷ fs) fid value) old ≡ f ∷ fs
    by true e later = let found : Some f.1 ≡ Some old = rw e at h in let same : f.1 ≡ old = cc in
        rw (e, e) (ap (λ (o : Fid). (f.0, o) ∷ fs) (sym same))
    by false e later = rw (e, e) (ap (λ r. f ∷ r) (later (rw e at h)))

-- the fid that was put is found, and any other as before
pub lookup_put : (fs : List (ℕ × Fid)) (fid : ℕ) (value : Fid) → lookup (nat_eq fid)
    (with_fid fs fid value) ≡ Some value
lookup_put [] fid value = rw (eq-eqb fid fid refl)
lookup_put (f ∷ fs) fid value = by (fid == f.0) refl (lookup_put fs fid value)
  where
    by : (b : Bool) → (fid == f.0) ≡ b → lookup (nat_eq fid) (with_fid fs fid value) ≡ Some value
        → lookup (nat_eq fid) (with_fid (f ∷ fs) fid value) ≡ Some value
    by true e later = rw (e, e)
    by false e later = rw (e, e) later

pub lookup_put_other : (fs : List (ℕ × Fid)) (fid other : ℕ) (value : Fid) → other ≢ fid
    → lookup (nat_eq other) (with_fid fs fid value) ≡ lookup (nat_eq other) fs
lookup_put_other [] fid other value n = rw (ne_eqb other fid n)
lookup_put_other (f ∷ fs) fid other value n = by (fid == f.0) refl (lookup_put_other fs fid other value n)
  where
    by : (b : Bool) → (fid == f.0) ≡ b → lookup (nat_eq other) (with_fid fs fid value) ≡ lookup (nat_eq other) fs
        → lookup (nat_eq other) (with_fid (f ∷ fs) fid value) ≡ lookup (nat_eq other) (f ∷ fs)
    by true e later =
        let apart : (other == f.0) ≡ false = ne_eqb other f.0 (λ s. n (s ∙ sym (eqb-true fid f.0 e))) in
        rw (e, apart)
    by false e later = rw e (ap (λ r. cond (other == f.0) (Some f.1) r) later)

-- the fid that was taken isn't found, and any other as before
pub lookup_taken : (fs : List (ℕ × Fid)) (fid : ℕ) → lookup (nat_eq fid) (without_fid fs fid) ≡ None
lookup_taken [] fid = refl
lookup_taken (f ∷ fs) fid = by (fid == f.0) refl (lookup_taken fs fid)
  where
    by : (b : Bool) → (fid == f.0) ≡ b → lookup (nat_eq fid) (without_fid fs fid) ≡ None → lookup (nat_eq fid)
        (without_fid (f ∷ fs) fid) ≡ None
    by true e later = rw e later
    by false e later = rw (e, e) later

pub lookup_taken_other : (fs : List (ℕ × Fid)) (fid other : ℕ) → other ≢ fid
    → lookup (nat_eq other) (without_fid fs fid) ≡ lookup (nat_eq other) fs
lookup_taken_other [] fid other n = refl
lookup_taken_other (f ∷ fs) fid other n = by (fid == f.0) refl (lookup_taken_other fs fid other n)
  where
    by : (b : Bool) → (fid == f.0) ≡ b → lookup (nat_eq other) (without_fid fs fid) ≡ lookup (nat_eq other) fs
        → lookup (nat_eq other) (without_fid (f ∷ fs) fid) ≡ lookup (nat_eq other) (f ∷ fs)
    by true e later =
        let apart : (other == f.0) ≡ false = ne_eqb other f.0 (λ s. n (s ∙ sym (eqb-true fid f.0 e))) in
        rw (e, apart) later
    by false e later = rw e (ap (λ r. cond (other == f.0) (Some f.1) r) later)

-- setting a fid whose number isn't in use changes nothing
pub absent_set : (fs : List (ℕ × Fid)) (fid : ℕ) (value : Fid) → lookup (nat_eq fid) fs ≡ None →
    fs ≡ set_value (nat_eq fid) fs value
absent_set [] fid value h = refl
absent_set (f ∷ fs) fid value h = by (fid == f.0) refl (λ g. absent_set fs fid value g)
  where
    by : (b : Bool) → (fid == f.0) ≡ b → (lookup (nat_eq fid) fs ≡ None → fs ≡ set_value (nat_eq fid) fs value)
        → f ∷ fs ≡ set_value (nat_eq fid) (f ∷ fs) value
    by true e later = let none : Some f.1 ≡ None = rw e at h in cc
    by false e later = rw e (ap (λ r. f ∷ r) (later (rw e at h)))
