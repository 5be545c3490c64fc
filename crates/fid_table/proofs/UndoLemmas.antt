-- Taking a growth back gives the state before it.
use Rattle.std.proofs.Common.{◌≡◌, ℕ, ◌-◌, Bool, true, false, List, [], ◌∷◌, ◌++◌, length, take, find, nat_eq, Option}
use Rattle.std.proofs.Common.{Some, None, refl, sym, ap, ◌∙◌, arith, length-append}
use Rattle.std.specs.Map.{lookup}
use Rattle.am_text.specs.Twice.{Twice}
use Rattle.fid_table.specs.Tables.{Tables, is_session, on_session, put_in, taken_from, fids_in, fid_of, after_join}
use Rattle.fid_table.specs.Tables.{after_put, after_wait}
use Rattle.fid_table.specs.Undo.{undone, all_undone, restored_in, unset}
use Rattle.fid_table.specs.declared.types.Fid.{Fid}
use Rattle.fid_table.specs.declared.session.Session.{Session}
use Rattle.fid_table.specs.declared.undo.Undo.{Undo}
use Rattle.fid_table.specs.declared.undo.Undo.TheVariants.{Leave, Unwait}
use Rattle.fid_table.proofs.FidLemmas.{put_taken, put_restored}

-- the newest is the first to be taken back
pub undone_last : (us : List Undo) (u : Undo) (t : Tables) → all_undone (us ++ u ∷ []) t ≡ all_undone us (undone u t)
undone_last [] u t = refl
undone_last (v ∷ us) u t = ap (undone v) (undone_last us u t)

module _ {X : Type 0} where
  front : (xs ys : List X) → take (length xs) (xs ++ ys) ≡ xs
  front [] ys = refl
  front (x ∷ xs) ys = ap (λ r. x ∷ r) (front xs ys)

  last_dropped : (xs : List X) (x : X) → take (length (xs ++ x ∷ []) - 1) (xs ++ x ∷ []) ≡ xs
  last_dropped xs x =
      let one_less : length (xs ++ x ∷ []) - 1 ≡ length xs = omega (arith, length-append xs (x ∷ [])) in
      rw one_less (front xs (x ∷ []))

pub join_undone : (t : Tables) (conn : ℕ) → undone Leave (after_join t conn) ≡ t
join_undone t conn = ap (λ (ss : List Session). record t { sessions = ss }) (last_dropped t.sessions _)

pub wait_undone : (t : Tables) (conn tag fid : ℕ) → undone Unwait (after_wait t conn tag fid) ≡ t
wait_undone t conn tag fid = ap (λ ws. record t { waiting = ws }) (last_dropped t.waiting _)

freed : (ss : List Session) (conn fid : ℕ) (value : Fid) → lookup (nat_eq fid)
    (fids_in (find (is_session conn) ss)) ≡ None → on_session (taken_from fid) conn
    (on_session (put_in fid value) conn ss) ≡ ss
freed [] conn fid value h = refl
freed (s ∷ ss) conn fid value h = by (is_session conn s) refl (λ g. freed ss conn fid value g)
  where
    by : (b : Bool) → is_session conn s ≡ b → (lookup (nat_eq fid) (fids_in (find (is_session conn) ss)) ≡ None →
        on_session (taken_from fid) conn (on_session (put_in fid value) conn ss) ≡ ss)
        → on_session (taken_from fid) conn (on_session (put_in fid value) conn (s ∷ ss)) ≡ s ∷ ss
    by true e later =
        rw (e, e) (ap (λ fs. record s { fids = fs } ∷ ss) (put_taken s.fids fid value (rw e at h)))
    by false e later = rw (e, e) (ap (λ r. s ∷ r) (later (rw e at h)))

restored : (ss : List Session) (conn fid : ℕ) (value old : Fid) → lookup (nat_eq fid)
    (fids_in (find (is_session conn) ss)) ≡ Some old → on_session (restored_in fid old) conn
    (on_session (put_in fid value) conn ss) ≡ ss
restored [] conn fid value old h = refl
restored (s ∷ ss) conn fid value old h = by (is_session conn s) refl (λ g. restored ss conn fid value old g)
  where
    by : (b : Bool) → is_session conn s ≡ b → (lookup (nat_eq fid) (fids_in (find (is_session conn) ss)) ≡ Some old
        → on_session (restored_in fid old) conn (on_session (put_in fid value) conn ss) ≡ ss)
        → on_session (restored_in fid old) conn (on_session (put_in fid value) conn (s ∷ ss)) ≡ s ∷ ss
    by true e later =
        rw (e, e) (ap (λ fs. record s { fids = fs } ∷ ss) (put_restored s.fids fid value old (rw e at h)))
    by false e later = rw (e, e) (ap (λ r. s ∷ r) (later (rw e at h)))

put_undone_by : (t : Tables) (conn fid : ℕ) (value : Fid) (before : Option Fid)
    → fid_of t conn fid ≡ before → undone (unset conn fid before) (after_put t conn fid value) ≡ t
put_undone_by t conn fid value None h = ap (λ (ss : List Session). record t { sessions = ss })
    (freed t.sessions conn fid value h)
put_undone_by t conn fid value (Some old) h = ap (λ (ss : List Session). record t { sessions = ss })
    (restored t.sessions conn fid value old h)

pub put_undone : (t : Tables) (conn fid : ℕ) (value : Fid) (before : Option Fid) → before ≡ fid_of t conn fid
    → undone (unset conn fid before) (after_put t conn fid value) ≡ t
put_undone t conn fid value before h = put_undone_by t conn fid value before (sym h)

-- what is kept stays where a growth is noted
pub grown : (us : List Undo) (u : Undo) (t t' : Tables) → undone u t' ≡ t → ◌≡◌ {A = Twice Tables}
    (record { present = t'; kept = all_undone (us ++ u ∷ []) t' }) (record { present = t'; kept = all_undone us t })
grown us u t t' h =
    let same : all_undone (us ++ u ∷ []) t' ≡ all_undone us t = undone_last us u t' ∙ ap (all_undone us) h in
    let P : Tables → Twice Tables = λ k. record { present = t'; kept = k } in ap P same
