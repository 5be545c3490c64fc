-- The session of a connection by its place, and changing it there.
use Rattle.std.proofs.Common.{◌≡◌, ◌≢◌, ◌==◌, ℕ, zero, suc, ◌<◌, Bool, true, false, cond, List, [], ◌∷◌, length, get_or}
use Rattle.std.proofs.Common.{set, find, Some, None, option_map, refl, sym, ap, ◌∙◌, arith}
use Rattle.std.proofs.lemmas.Bool.{eqb-true, ne_eqb}
use Rattle.std.proofs.lemmas.Bool.Decides.{nat_tests}
use Rattle.std.proofs.lemmas.List.Quantifiers.{position-Some}
use Rattle.std.proofs.lemmas.List.Sums.{fails_before_first}
use Rattle.std.specs.List.{position}
use Rattle.am_journal.specs.declared.event.Format.{Format}
use Rattle.fid_table.specs.Tables.{Tables, is_session, on_session}
use Rattle.fid_table.specs.declared.session.Session.{Session}
use Rattle.fid_table.specs.declared.session.Waiting.{Waiting}

none_is : (ss : List Session) (conn : ℕ) → position (is_session conn) ss ≡ None → (k : ℕ) (d : Session) → k < length ss
    → is_session conn (get_or ss k d) ≡ false
none_is ss conn h k d l = fails_before_first (is_session conn) ss k d (grind (arith, nat_tests))

find_missing : (ss : List Session) (conn : ℕ) → ((k : ℕ) (d : Session) → k < length ss
    → is_session conn (get_or ss k d) ≡ false) → find (is_session conn) ss ≡ None
find_missing [] conn h = refl
find_missing (s ∷ ss) conn h = rw (h 0 s (omega arith)) (find_missing ss conn (λ k d l. h (suc k) d (omega arith)))

pub find_none : (ss : List Session) (conn : ℕ) → position (is_session conn) ss ≡ None → find (is_session conn) ss ≡ None
find_none ss conn h = find_missing ss conn (none_is ss conn h)

find_found : (ss : List Session) (conn k : ℕ) (d : Session) → k < length ss
    → is_session conn (get_or ss k d) ≡ true → ((j : ℕ) → j < k → is_session conn (get_or ss j d) ≡ false)
    → find (is_session conn) ss ≡ Some (get_or ss k d)
find_found [] conn k d l t n = absurd (omega arith)
find_found (s ∷ ss) conn zero d l t n = rw t
find_found (s ∷ ss) conn (suc k) d l t n = rw (n 0 (omega arith)) (find_found ss conn k d (omega arith) t
    (λ j h. n (suc j) (omega arith)))

pub find_some : (ss : List Session) (conn k : ℕ) (s : Session) → position (is_session conn) ss ≡ Some k
    → s ≡ get_or ss k s → find (is_session conn) ss ≡ Some s
find_some ss conn k s h e =
    let p = position-Some (is_session conn) ss k s h in find_found ss conn k s p.0 p.1 p.2 ∙ ap Some (sym e)

module _ (f : Session → Session) where
  stays : (ss : List Session) (conn : ℕ) → ((k : ℕ) (d : Session) → k < length ss
      → is_session conn (get_or ss k d) ≡ false) → on_session f conn ss ≡ ss
  stays [] conn h = refl
  stays (s ∷ ss) conn h = rw (h 0 s (omega arith)) (ap (λ r. s ∷ r)
      (stays ss conn (λ k d l. h (suc k) d (omega arith))))

  -- no session is changed where there is none
  pub unchanged : (ss : List Session) (conn : ℕ) → position (is_session conn) ss ≡ None → ss ≡ on_session f conn ss
  unchanged ss conn h = sym (stays ss conn (none_is ss conn h))

  found : (ss : List Session) (conn k : ℕ) (d v : Session) → k < length ss
      → is_session conn (get_or ss k d) ≡ true → ((j : ℕ) → j < k → is_session conn (get_or ss j d) ≡ false)
      → v ≡ f (get_or ss k d) → set ss k v ≡ on_session f conn ss
  found [] conn k d v l t n e = absurd (omega arith)
  found (s ∷ ss) conn zero d v l t n e = rw (t, e)
  found (s ∷ ss) conn (suc k) d v l t n e = rw (n 0 (omega arith))
      (ap (λ r. s ∷ r) (found ss conn k d v (omega arith) t (λ j h. n (suc j) (omega arith)) e))

  -- the session at the place is the one that is changed
  pub changed : (ss : List Session) (conn k : ℕ) (d v : Session) → position (is_session conn) ss ≡ Some k
      → d ≡ get_or ss k d → v ≡ f d → set ss k v ≡ on_session f conn ss
  changed ss conn k d v h e r =
      let p = position-Some (is_session conn) ss k d h in found ss conn k d v p.0 p.1 p.2 (r ∙ ap f e)

  pub missing_table : (format : Format) (ss : List Session) (ws : List Waiting) (conn : ℕ)
      → position (is_session conn) ss ≡ None → ◌≡◌ {A = Tables} (record
      { format = format; sessions = ss; waiting = ws }) (record {
        format = format;
        sessions = on_session f conn ss;
        waiting = ws;
      })
  missing_table format ss ws conn h = ap (λ (r : List Session). record { format = format; sessions = r; waiting = ws })
      (unchanged ss conn h)

  pub changed_table : (format : Format) (ss : List Session) (ws : List Waiting) (conn k : ℕ) (d v : Session)
      → position (is_session conn) ss ≡ Some k → d ≡ get_or ss k d → v ≡ f d
      → ◌≡◌ {A = Tables} (record { format = format; sessions = set ss k v; waiting = ws })
      (record { format = format; sessions = on_session f conn ss; waiting = ws })
  changed_table format ss ws conn k d v h e r = ap (λ (r : List Session).
      record { format = format; sessions = r; waiting = ws }) (changed ss conn k d v h e r)

module _ (f : Session → Session) (same : (s : Session) → (f s).conn ≡ s.conn) where
  -- the changed session is found, and any other as before
  pub find_changed : (ss : List Session) (conn : ℕ) → find (is_session conn) (on_session f conn ss) ≡ option_map f
      (find (is_session conn) ss)
  find_changed [] conn = refl
  find_changed (s ∷ ss) conn = by (is_session conn s) refl (find_changed ss conn)
    where
      by : (b : Bool) → is_session conn s ≡ b → find (is_session conn) (on_session f conn ss) ≡ option_map f
          (find (is_session conn) ss) → find (is_session conn) (on_session f conn (s ∷ ss)) ≡ option_map f
          (find (is_session conn) (s ∷ ss))
      by true e later =
          let there : is_session conn (f s) ≡ true = ap (λ c. c == conn) (same s) ∙ e in
          rw (e, there)
      by false e later = rw (e, e) later

  pub find_other : (ss : List Session) (conn other : ℕ) → other ≢ conn
      → find (is_session other) (on_session f conn ss) ≡ find (is_session other) ss
  find_other [] conn other n = refl
  find_other (s ∷ ss) conn other n = by (is_session conn s) refl (find_other ss conn other n)
    where
      by : (b : Bool) → is_session conn s ≡ b → find (is_session other) (on_session f conn ss) ≡ find (is_session other)
          ss → find (is_session other) (on_session f conn (s ∷ ss)) ≡ find (is_session other) (s ∷ ss)
      by true e later =
          let apart : is_session other s ≡ false = ne_eqb s.conn other (λ h. n (sym h ∙ eqb-true s.conn conn e)) in
          let there : is_session other (f s) ≡ false = ap (λ c. c == other) (same s) ∙ apart in
          rw (e, there, apart)
      by false e later = rw e (ap (λ r. cond (is_session other s) (Some s) r) later)
