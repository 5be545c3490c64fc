-- What holds of all sessions.
use Rattle.std.proofs.Common.{◌≡◌, ◌≢◌, ℕ, Bool, true, false, cond, not, List, [], ◌∷◌, filter, find, nat_eq, Option}
use Rattle.std.proofs.Common.{Some, None, option_map, IsSome, refl, sym, ap, ◌∙◌}
use Rattle.std.proofs.lemmas.Bool.{eqb-true, ne_eqb}
use Rattle.std.specs.List.{list_any}
use Rattle.std.specs.Map.{lookup}
use Rattle.fid_table.specs.Tables.{is_session, is_waiting_on, fids_in, put_in, taken_from, begun}
use Rattle.fid_table.specs.Laws.{FindsWhatWasPut, ForgetsWhatWasTaken, LeavesOtherFids, DropsAllFids}
use Rattle.fid_table.specs.declared.types.Fid.{Fid}
use Rattle.fid_table.specs.declared.session.Session.{Session}
use Rattle.fid_table.specs.declared.session.Waiting.{Waiting}
use Rattle.fid_table.proofs.FidLemmas.{lookup_put, lookup_put_other, lookup_taken, lookup_taken_other}
use Rattle.fid_table.proofs.PlaceLemmas.{find_changed, find_other}

any_found : (ss : List Session) (conn : ℕ) → list_any (is_session conn) ss ≡ true → IsSome (find (is_session conn) ss)
any_found [] conn h = h
any_found (s ∷ ss) conn h = by (is_session conn s) refl (λ g. any_found ss conn g)
  where
    by : (b : Bool) → is_session conn s ≡ b → (list_any (is_session conn) ss ≡ true →
        IsSome (find (is_session conn) ss)) → IsSome (find (is_session conn) (s ∷ ss))
    by true e later = rw e refl
    by false e later = rw e (later (rw e at h))

put_found : (fid : ℕ) (value : Fid) (o : Option Session) → IsSome o
    → lookup (nat_eq fid) (fids_in (option_map (put_in fid value) o)) ≡ Some value
put_found fid value None h = cc
put_found fid value (Some s) h = lookup_put s.fids fid value

put_other : (fid other : ℕ) (value : Fid) (o : Option Session) → other ≢ fid
    → lookup (nat_eq other) (fids_in (option_map (put_in fid value) o)) ≡ lookup (nat_eq other) (fids_in o)
put_other fid other value None n = refl
put_other fid other value (Some s) n = lookup_put_other s.fids fid other value n

taken_gone : (fid : ℕ) (o : Option Session) → lookup (nat_eq fid) (fids_in (option_map (taken_from fid) o)) ≡ None
taken_gone fid None = refl
taken_gone fid (Some s) = lookup_taken s.fids fid

taken_other : (fid other : ℕ) (o : Option Session) → other ≢ fid → lookup (nat_eq other)
    (fids_in (option_map (taken_from fid) o)) ≡ lookup (nat_eq other) (fids_in o)
taken_other fid other None n = refl
taken_other fid other (Some s) n = lookup_taken_other s.fids fid other n

begun_none : (msize : Option ℕ) (o : Option Session) → fids_in (option_map (begun msize) o) ≡ []
begun_none msize None = refl
begun_none msize (Some s) = refl

none_waits : (ws : List Waiting) (conn : ℕ) → filter (is_waiting_on conn)
    (filter (λ w. not (is_waiting_on conn w)) ws) ≡ []
none_waits [] conn = refl
none_waits (w ∷ ws) conn = by (is_waiting_on conn w) refl (none_waits ws conn)
  where
    by : (b : Bool) → is_waiting_on conn w ≡ b → filter (is_waiting_on conn)
        (filter (λ v. not (is_waiting_on conn v)) ws) ≡ [] → filter (is_waiting_on conn)
        (filter (λ v. not (is_waiting_on conn v)) (w ∷ ws)) ≡ []
    by true e later = rw e later
    by false e later = rw (e, e) later

others_wait : (ws : List Waiting) (conn other : ℕ) → other ≢ conn → filter (is_waiting_on other)
    (filter (λ w. not (is_waiting_on conn w)) ws) ≡ filter (is_waiting_on other) ws
others_wait [] conn other n = refl
others_wait (w ∷ ws) conn other n = by (is_waiting_on conn w) refl (others_wait ws conn other n)
  where
    by : (b : Bool) → is_waiting_on conn w ≡ b → filter (is_waiting_on other)
        (filter (λ v. not (is_waiting_on conn v)) ws) ≡ filter (is_waiting_on other) ws
        → filter (is_waiting_on other) (filter (λ v. not (is_waiting_on conn v)) (w ∷ ws))
        ≡ filter (is_waiting_on other) (w ∷ ws)
    by true e later =
        let apart : is_waiting_on other w ≡ false = ne_eqb w.conn other (λ h. n (sym h ∙ eqb-true w.conn conn e)) in
        rw (e, apart) later
    by false e later = rw e (ap (λ r. cond (is_waiting_on other w) (w ∷ r) r) later)

pub finds : FindsWhatWasPut
finds t conn fid value h =
    ap (λ o. lookup (nat_eq fid) (fids_in o)) (find_changed (put_in fid value) (λ s. refl) t.sessions conn)
    ∙ put_found fid value _ (any_found t.sessions conn h)

pub forgets : ForgetsWhatWasTaken
forgets t conn fid =
    ap (λ o. lookup (nat_eq fid) (fids_in o)) (find_changed (taken_from fid) (λ s. refl) t.sessions conn)
    ∙ taken_gone fid _

pub leaves : LeavesOtherFids
leaves = record {
  put_number = λ t conn fid other value n. ap (λ o. lookup (nat_eq other) (fids_in o))
      (find_changed (put_in fid value) (λ s. refl) t.sessions conn) ∙ put_other fid other value _ n;
  put_conn = λ t conn fid other value n. ap fids_in (find_other (put_in fid value) (λ s. refl) t.sessions conn other n);
  take_number = λ t conn fid other n. ap (λ o. lookup (nat_eq other) (fids_in o))
      (find_changed (taken_from fid) (λ s. refl) t.sessions conn) ∙ taken_other fid other _ n;
  take_conn = λ t conn fid other n. ap fids_in (find_other (taken_from fid) (λ s. refl) t.sessions conn other n);
}

pub drops : DropsAllFids
drops = record {
  fids = λ t conn msize. ap fids_in (find_changed (begun msize) (λ s. refl) t.sessions conn) ∙ begun_none msize _;
  waiting = λ t conn msize. none_waits t.waiting conn;
  other_fids = λ t conn other msize n. ap fids_in (find_other (begun msize) (λ s. refl) t.sessions conn other n);
  other_waiting = λ t conn other msize n. others_wait t.waiting conn other n;
}
