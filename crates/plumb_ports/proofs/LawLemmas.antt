-- What holds of all that openings are given.
use Rattle.std.proofs.Common.{◌≡◌, ◌≢◌, ◌==◌, ℕ, zero, suc, ◌||◌, Bool, true, false, cond, not, List, [], ◌∷◌, ◌++◌}
use Rattle.std.proofs.Common.{take, drop, map, filter, find, Option, Some, None, refl, sym, ap, ◌∙◌, append_assoc}
use Rattle.std.proofs.Common.{append-nil, take-append-drop}
use Rattle.std.proofs.lemmas.Bool.{eqb-true, ne_eqb, eq-eqb}
use Rattle.std.specs.List.{concat, list_any}
use Rattle.wait_queue.specs.Reads.{is_read, without_read}
use Rattle.wait_queue.specs.declared.types.Asker.{Asker}
use Rattle.plumb_ports.specs.PortList.{Port, number_of, kept_of, with_kept}
use Rattle.plumb_ports.specs.Inboxes.{Inbox, blank, is_of, is_on, inbox_of, received, delivered, piece_from, piece_of}
use Rattle.plumb_ports.specs.Inboxes.{after_piece_from, after_piece, after_read}
use Rattle.plumb_ports.specs.PortsState.{PortsState, HasJoined, has_joined, is_open, is_ready, read_waits, piece_for}
use Rattle.plumb_ports.specs.PortsState.{next_of, refusal_on, after_join, delivered_at, delivered_on, after_ask}
use Rattle.plumb_ports.specs.PortsState.{after_next, after_answer, after_leave}
use Rattle.plumb_ports.specs.Laws.{Add, Join, Deliver, Ask, Serve, Cancel, Leave, after_call, run, owed_in, owed}
use Rattle.plumb_ports.specs.Laws.{answer_to, served_to, given_by, message_to, delivered_by, all_given, all_delivered}
use Rattle.plumb_ports.specs.Laws.{LosesNothing, GetsEachMessage, BeginsWithNothing, KeptOnce, LeavesOthers}
use Rattle.plumb_ports.specs.Laws.{CancelledIsNotNext}

-- ---- one opening among others

pub inbox-missing : (os : List Inbox) (x : ℕ) → list_any (is_of x) os ≡ false → inbox_of os x ≡ blank x 0
inbox-missing [] x h = refl
inbox-missing (o ∷ os) x h = by (is_of x o) refl (inbox-missing os x)
  where
    by : (b : Bool) → is_of x o ≡ b → (list_any (is_of x) os ≡ false → inbox_of os x ≡ blank x 0)
        → inbox_of (o ∷ os) x ≡ blank x 0
    by true e later = let bad : true ≡ false = rw e at h in cc
    by false e later = rw e (later (rw e at h))

pub inbox-pushed : (os : List Inbox) (new : Inbox) (x : ℕ) → list_any (is_of x) os ≡ true → inbox_of (os ++ new ∷ [])
    x ≡ inbox_of os x
inbox-pushed [] new x h = cc
inbox-pushed (o ∷ os) new x h = by (is_of x o) refl (inbox-pushed os new x)
  where
    by : (b : Bool) → is_of x o ≡ b → (list_any (is_of x) os ≡ true → inbox_of (os ++ new ∷ []) x ≡ inbox_of os x)
        → inbox_of ((o ∷ os) ++ new ∷ []) x ≡ inbox_of (o ∷ os) x
    by true e later = rw e
    by false e later = rw e (later (rw e at h))

inbox-last : (os : List Inbox) (new : Inbox) (x : ℕ) → list_any (is_of x) os ≡ false → is_of x new ≡ true →
    inbox_of (os ++ new ∷ []) x ≡ new
inbox-last [] new x h t = rw t
inbox-last (o ∷ os) new x h t = by (is_of x o) refl (λ g. inbox-last os new x g t)
  where
    by : (b : Bool) → is_of x o ≡ b → (list_any (is_of x) os ≡ false → inbox_of (os ++ new ∷ []) x ≡ new)
        → inbox_of ((o ∷ os) ++ new ∷ []) x ≡ new
    by true e later = let bad : true ≡ false = rw e at h in cc
    by false e later = rw e (later (rw e at h))

-- one that is there after another joined was there, or is that one
pub any-pushed : (os : List Inbox) (new : Inbox) (x : ℕ) → list_any (is_of x) os ≡ false → list_any (is_of x)
    (os ++ new ∷ []) ≡ true → is_of x new ≡ true
any-pushed [] new x h t = by (is_of x new) refl
  where
    by : (b : Bool) → is_of x new ≡ b → is_of x new ≡ true
    by true e = e
    by false e = let bad : false ≡ true = rw e at t in cc
any-pushed (o ∷ os) new x h t = by (is_of x o) refl (any-pushed os new x)
  where
    by : (b : Bool) → is_of x o ≡ b → (list_any (is_of x) os ≡ false → list_any (is_of x) (os ++ new ∷ []) ≡ true →
        is_of x new ≡ true) → is_of x new ≡ true
    by true e later = let bad : true ≡ false = rw e at h in cc
    by false e later = later (rw e at h) (rw e at t)

pub opening-delivered : (port : ℕ) (message : List ℕ) (o : Inbox) → (delivered port message o).opening ≡ o.opening
opening-delivered port message o =
    elim (is_on port o) as (λ b. (cond b (received message o) o).opening ≡ o.opening) [ true ↦ refl | false ↦ refl ]

pub any-delivered : (port : ℕ) (message : List ℕ) (os : List Inbox) (x : ℕ)
    → list_any (is_of x) (map (delivered port message) os) ≡ list_any (is_of x) os
any-delivered port message [] x = refl
any-delivered port message (o ∷ os) x =
    ap (λ n. (n == x) || list_any (is_of x) (map (delivered port message) os)) (opening-delivered port message o)
    ∙ ap (λ b. is_of x o || b) (any-delivered port message os x)

pub inbox-delivered : (port : ℕ) (message : List ℕ) (os : List Inbox) (x : ℕ)
    → list_any (is_of x) os ≡ true → inbox_of (map (delivered port message) os) x ≡ delivered port message
    (inbox_of os x)
inbox-delivered port message [] x h = cc
inbox-delivered port message (o ∷ os) x h = by (is_of x o) refl (inbox-delivered port message os x)
  where
    by : (b : Bool) → is_of x o ≡ b → (list_any (is_of x) os ≡ true → inbox_of (map (delivered port message) os)
        x ≡ delivered port message (inbox_of os x)) → inbox_of (map (delivered port message) (o ∷ os))
        x ≡ delivered port message (inbox_of (o ∷ os) x)
    by true e later =
        ap (λ n. cond (n == x) (delivered port message o) (inbox_of (map (delivered port message) os) x))
        (opening-delivered port message o)
        ∙ ap (λ b. cond b (delivered port message o) (inbox_of (map (delivered port message) os) x)) e
        ∙ ap (λ b. delivered port message (cond b o (inbox_of os x))) (sym e)
    by false e later =
        ap (λ n. cond (n == x) (delivered port message o) (inbox_of (map (delivered port message) os) x))
        (opening-delivered port message o)
        ∙ ap (λ b. cond b (delivered port message o) (inbox_of (map (delivered port message) os) x)) e
        ∙ later (rw e at h)
        ∙ ap (λ b. delivered port message (cond b o (inbox_of os x))) (sym e)

opening-piece_from : (carry : List ℕ) (ms : List (List ℕ)) (o : Inbox) (n : ℕ)
    → (after_piece_from carry ms o n).opening ≡ o.opening
opening-piece_from (b ∷ bs) ms o n = refl
opening-piece_from [] (m ∷ ms) o n = refl
opening-piece_from [] [] o n = refl

pub opening-piece : (o : Inbox) (n : ℕ) → (after_piece o n).opening ≡ o.opening
opening-piece o n =
    elim (n == 0) as (λ b. (cond b o (after_piece_from o.carry o.messages o n)).opening ≡ o.opening)
    [ true ↦ refl | false ↦ opening-piece_from o.carry o.messages o n ]

pub inbox-read : (os : List Inbox) (x n : ℕ) → list_any (is_of x) os ≡ true → inbox_of (after_read os x n)
    x ≡ after_piece (inbox_of os x) n
inbox-read [] x n h = cc
inbox-read (o ∷ os) x n h = by (is_of x o) refl (inbox-read os x n)
  where
    by : (b : Bool) → is_of x o ≡ b → (list_any (is_of x) os ≡ true → inbox_of (after_read os x n)
        x ≡ after_piece (inbox_of os x) n) → inbox_of (after_read (o ∷ os) x n) x ≡ after_piece (inbox_of (o ∷ os) x) n
    by true e later =
        let there : is_of x (after_piece o n) ≡ true = ap (λ m. m == x) (opening-piece o n) ∙ e in
        ap (λ b. inbox_of (cond b (after_piece o n ∷ os) (o ∷ after_read os x n)) x) e
        ∙ ap (λ b. cond b (after_piece o n) (inbox_of os x)) there
        ∙ ap (λ b. after_piece (cond b o (inbox_of os x)) n) (sym e)
    by false e later =
        ap (λ b. inbox_of (cond b (after_piece o n ∷ os) (o ∷ after_read os x n)) x) e
        ∙ ap (λ b. cond b o (inbox_of (after_read os x n) x)) e
        ∙ later (rw e at h)
        ∙ ap (λ b. after_piece (cond b o (inbox_of os x)) n) (sym e)

pub inbox-read_other : (os : List Inbox) (x y n : ℕ) → y ≢ x → inbox_of (after_read os x n) y ≡ inbox_of os y
inbox-read_other [] x y n d = refl
inbox-read_other (o ∷ os) x y n d = by (is_of x o) refl (inbox-read_other os x y n d)
  where
    by : (b : Bool) → is_of x o ≡ b → inbox_of (after_read os x n) y ≡ inbox_of os y
        → inbox_of (after_read (o ∷ os) x n) y ≡ inbox_of (o ∷ os) y
    by true e later =
        let apart : is_of y o ≡ false = ne_eqb o.opening y (λ h. d (sym h ∙ eqb-true o.opening x e)) in
        let there : is_of y (after_piece o n) ≡ false = ap (λ m. m == y) (opening-piece o n) ∙ apart in
        ap (λ b. inbox_of (cond b (after_piece o n ∷ os) (o ∷ after_read os x n)) y) e
        ∙ ap (λ b. cond b (after_piece o n) (inbox_of os y)) there
        ∙ ap (λ b. cond b o (inbox_of os y)) (sym apart)
    by false e later =
        ap (λ b. inbox_of (cond b (after_piece o n ∷ os) (o ∷ after_read os x n)) y) e
        ∙ ap (λ r. cond (is_of y o) o r) later

pub any-read : (os : List Inbox) (x y n : ℕ) → list_any (is_of y) (after_read os x n) ≡ list_any (is_of y) os
any-read [] x y n = refl
any-read (o ∷ os) x y n = by (is_of x o) refl (any-read os x y n)
  where
    by : (b : Bool) → is_of x o ≡ b → list_any (is_of y) (after_read os x n) ≡ list_any (is_of y) os
        → list_any (is_of y) (after_read (o ∷ os) x n) ≡ list_any (is_of y) (o ∷ os)
    by true e later =
        ap (λ b. list_any (is_of y) (cond b (after_piece o n ∷ os) (o ∷ after_read os x n))) e
        ∙ ap (λ m. (m == y) || list_any (is_of y) os) (opening-piece o n)
    by false e later =
        ap (λ b. list_any (is_of y) (cond b (after_piece o n ∷ os) (o ∷ after_read os x n))) e
        ∙ ap (λ b. is_of y o || b) later

pub inbox-left : (os : List Inbox) (x y : ℕ) → y ≢ x → inbox_of (filter (λ o. not (is_of x o)) os) y ≡ inbox_of os y
inbox-left [] x y d = refl
inbox-left (o ∷ os) x y d = by (is_of x o) refl (inbox-left os x y d)
  where
    by : (b : Bool) → is_of x o ≡ b → inbox_of (filter (λ p. not (is_of x p)) os) y ≡ inbox_of os y
        → inbox_of (filter (λ p. not (is_of x p)) (o ∷ os)) y ≡ inbox_of (o ∷ os) y
    by true e later =
        let apart : is_of y o ≡ false = ne_eqb o.opening y (λ h. d (sym h ∙ eqb-true o.opening x e)) in
        ap (λ b. inbox_of (cond (not b) (o ∷ filter (λ p. not (is_of x p)) os) (filter (λ p. not (is_of x p)) os)) y) e
        ∙ later ∙ ap (λ b. cond b o (inbox_of os y)) (sym apart)
    by false e later =
        ap (λ b. inbox_of (cond (not b) (o ∷ filter (λ p. not (is_of x p)) os) (filter (λ p. not (is_of x p)) os)) y) e
        ∙ ap (λ r. cond (is_of y o) o r) later

none-left : (os : List Inbox) (x : ℕ) → list_any (is_of x) (filter (λ o. not (is_of x o)) os) ≡ false
none-left [] x = refl
none-left (o ∷ os) x = by (is_of x o) refl (none-left os x)
  where
    by : (b : Bool) → is_of x o ≡ b → list_any (is_of x) (filter (λ p. not (is_of x p)) os) ≡ false → list_any (is_of x)
        (filter (λ p. not (is_of x p)) (o ∷ os)) ≡ false
    by true e later =
        ap (λ b. list_any (is_of x) (cond (not b) (o ∷ filter (λ p. not (is_of x p)) os)
        (filter (λ p. not (is_of x p)) os))) e ∙ later
    by false e later =
        ap (λ b. list_any (is_of x) (cond (not b) (o ∷ filter (λ p. not (is_of x p)) os)
        (filter (λ p. not (is_of x p)) os))) e
        ∙ ap (λ b. b || list_any (is_of x) (filter (λ p. not (is_of x p)) os)) e ∙ later

-- where a port has no opening, none that is there is one of it
not-on : (port : ℕ) (os : List Inbox) (x : ℕ) → list_any (is_on port) os ≡ false → list_any (is_of x) os ≡ true →
    is_on port (inbox_of os x) ≡ false
not-on port [] x h j = cc
not-on port (o ∷ os) x h j = by (is_on port o) refl (is_of x o) refl (not-on port os x)
  where
    by : (b : Bool) → is_on port o ≡ b → (t : Bool) → is_of x o ≡ t →
        (list_any (is_on port) os ≡ false → list_any (is_of x) os ≡ true → is_on port (inbox_of os x) ≡ false)
        → is_on port (inbox_of (o ∷ os) x) ≡ false
    by true e t f later = let bad : true ≡ false = rw e at h in cc
    by false e true f later = ap (λ b. is_on port (cond b o (inbox_of os x))) f ∙ e
    by false e false f later = ap (λ b. is_on port (cond b o (inbox_of os x))) f ∙ later (rw e at h) (rw f at j)

-- ---- bytes

concat-pushed : (ms : List (List ℕ)) (m : List ℕ) → concat (ms ++ m ∷ []) ≡ concat ms ++ m
concat-pushed [] m = append-nil m
concat-pushed (x ∷ xs) m = ap (λ r. x ++ r) (concat-pushed xs m) ∙ sym (append_assoc x (concat xs) m)

owed-received : (message : List ℕ) (o : Inbox) → owed_in (received message o) ≡ owed_in o ++ message
owed-received message o =
    ap (λ r. o.carry ++ r) (concat-pushed o.messages message) ∙ sym (append_assoc o.carry (concat o.messages) message)

owed-delivered : (port : ℕ) (message : List ℕ) (o : Inbox) → owed_in (delivered port message o)
    ≡ owed_in o ++ cond (is_on port o) message []
owed-delivered port message o =
    elim (is_on port o) as (λ b. owed_in (cond b (received message o) o) ≡ owed_in o ++ cond b message [])
    [ true ↦ owed-received message o | false ↦ sym (append-nil (owed_in o)) ]

piece-owed_from : (carry : List ℕ) (ms : List (List ℕ)) (o : Inbox) (n : ℕ)
    → o.carry ≡ carry → o.messages ≡ ms → (piece_from carry ms n).bytes
    ++ owed_in (after_piece_from carry ms o n) ≡ owed_in o
piece-owed_from (b ∷ bs) ms o n e f =
    sym (append_assoc (take n (b ∷ bs)) (drop n (b ∷ bs)) (concat o.messages))
    ∙ ap (λ l. l ++ concat o.messages) (take-append-drop n (b ∷ bs) ∙ sym e)
piece-owed_from [] (m ∷ ms) o n e f =
    sym (append_assoc (take n m) (drop n m) (concat ms))
    ∙ ap (λ l. l ++ concat ms) (take-append-drop n m) ∙ ap concat (sym f) ∙ ap (λ l. l ++ concat o.messages) (sym e)
piece-owed_from [] [] o n e f = refl

piece-owed : (o : Inbox) (n : ℕ) → (piece_of o n).bytes ++ owed_in (after_piece o n) ≡ owed_in o
piece-owed o n =
    elim (n == 0) as (λ b. (cond b (record { bytes = []; taken = None }) (piece_from o.carry o.messages n)).bytes
    ++ owed_in (cond b o (after_piece_from o.carry o.messages o n)) ≡ owed_in o)
    [ true ↦ refl | false ↦ piece-owed_from o.carry o.messages o n refl refl ]

-- ---- an answer to a read

answer-owed : (s : PortsState) (r : Asker) (x : ℕ) → list_any (is_of x) s.openings ≡ true → answer_to s r x
    ++ owed (after_answer s r) x ≡ owed s x
answer-owed s r x h = by (r.opening == x) refl
  where
    by : (b : Bool) → (r.opening == x) ≡ b → answer_to s r x ++ owed (after_answer s r) x ≡ owed s x
    by true e =
        let same : r.opening ≡ x = eqb-true r.opening x e in
        ap (λ b. cond b (piece_for s r).bytes [] ++ owed (after_answer s r) x) e
        ∙ ap (λ y. (piece_of (inbox_of s.openings y) r.count).bytes
        ++ owed_in (inbox_of (after_read s.openings y r.count) x)) same
        ∙ ap (λ o. (piece_of (inbox_of s.openings x) r.count).bytes ++ owed_in o) (inbox-read s.openings x r.count h)
        ∙ piece-owed (inbox_of s.openings x) r.count
    by false e =
        ap (λ b. cond b (piece_for s r).bytes [] ++ owed (after_answer s r) x) e
        ∙ ap owed_in (inbox-read_other s.openings r.opening x r.count (λ g. apart g))
      where
        apart : x ≡ r.opening → ⊥
        apart g = let t : (r.opening == x) ≡ true = eq-eqb r.opening x (sym g) in cc

pub leaves : LeavesOthers
leaves s r other d = inbox-read_other s.openings r.opening other r.count d

-- ---- each call

join-owed : (s : PortsState) (port o x : ℕ) → has_joined s o ≡ false → HasJoined (after_join s port o) x
    → owed (after_join s port o) x ≡ owed s x ++ cond (o == x) (concat (kept_of s.ports port)) []
join-owed s port o x f h = by (list_any (is_of x) s.openings) refl
  where
    new : Inbox
    new = record { opening = o; port = port; messages = kept_of s.ports port; carry = [] }

    by : (b : Bool) → list_any (is_of x) s.openings ≡ b → owed (after_join s port o) x ≡ owed s x
        ++ cond (o == x) (concat (kept_of s.ports port)) []
    by true e =
        let apart : (o == x) ≡ false = other (o == x) refl in
        ap owed_in (inbox-pushed s.openings new x e) ∙ sym (append-nil (owed s x))
        ∙ ap (λ b. owed s x ++ cond b (concat (kept_of s.ports port)) []) (sym apart)
      where
        other : (b : Bool) → (o == x) ≡ b → (o == x) ≡ false
        other true g = let t : list_any (is_of x) s.openings ≡ false = ap (λ y. list_any (is_of y) s.openings)
            (sym (eqb-true o x g)) ∙ f in cc
        other false g = g
    by false e =
        let there : (o == x) ≡ true = any-pushed s.openings new x e h in
        ap owed_in (inbox-last s.openings new x e there)
        ∙ ap (λ b. cond b (concat (kept_of s.ports port)) []) (sym there)
        ∙ ap (λ p. owed_in p ++ cond (o == x) (concat (kept_of s.ports port)) []) (sym (inbox-missing s.openings x e))

message-owed : (s : PortsState) (port : ℕ) (message : List ℕ) (x : ℕ) → HasJoined (delivered_at s port message) x
    → owed (delivered_at s port message) x ≡ owed s x ++ cond (is_on port (inbox_of s.openings x)) message []
message-owed s port message x h = by (is_open s port) refl
  where
    kept : PortsState
    kept = record s { ports = with_kept s.ports port (kept_of s.ports port ++ message ∷ []) }

    copied : PortsState
    copied = record s { openings = map (delivered port message) s.openings }

    by : (b : Bool) → is_open s port ≡ b → owed (delivered_at s port message) x ≡ owed s x
        ++ cond (is_on port (inbox_of s.openings x)) message []
    by true e =
        let there : list_any (is_of x) s.openings ≡ true = sym (any-delivered port message s.openings x)
        ∙ sym (ap (λ b. has_joined (cond b copied kept) x) e) ∙ h in
        ap (λ b. owed (cond b copied kept) x) e
        ∙ ap owed_in (inbox-delivered port message s.openings x there)
        ∙ owed-delivered port message (inbox_of s.openings x)
    by false e =
        let there : list_any (is_of x) s.openings ≡ true = sym (ap (λ b. has_joined (cond b copied kept) x) e) ∙ h in
        ap (λ b. owed (cond b copied kept) x) e ∙ sym (append-nil (owed s x))
        ∙ ap (λ b. owed s x ++ cond b message []) (sym (not-on port s.openings x e there))

deliver-owed : (s : PortsState) (number : Option ℕ) (message : List ℕ) (keep : Bool) (x : ℕ)
    → refusal_on number s keep ≡ None → HasJoined (delivered_on number s message) x
    → owed (delivered_on number s message) x ≡ owed s x ++ message_to number message (inbox_of s.openings x)
deliver-owed s None message keep x a h = cc
deliver-owed s (Some port) message keep x a h = message-owed s port message x h

ask-owed : (s : PortsState) (r : Asker) (x : ℕ) → HasJoined (after_ask s r) x → given_by s (Ask r) x
    ++ owed (after_ask s r) x ≡ owed s x ++ []
ask-owed s r x h = by (read_waits s r) refl ∙ sym (append-nil (owed s x))
  where
    waiting : PortsState
    waiting = record s { reads = s.reads ++ r ∷ [] }

    by : (b : Bool) → read_waits s r ≡ b → given_by s (Ask r) x ++ owed (after_ask s r) x ≡ owed s x
    by true e = ap (λ b. cond b [] (answer_to s r x) ++ owed (cond b waiting (after_answer s r)) x) e
    by false e =
        let there : list_any (is_of x) s.openings ≡ true = sym (any-read s.openings r.opening x r.count)
        ∙ sym (ap (λ b. has_joined (cond b waiting (after_answer s r)) x) e) ∙ h in
        ap (λ b. cond b [] (answer_to s r x) ++ owed (cond b waiting (after_answer s r)) x) e ∙ answer-owed s r x there

serve-owed : (s : PortsState) (next : Option Asker) (x : ℕ) → HasJoined (after_next next s) x → served_to s next x
    ++ owed (after_next next s) x ≡ owed s x ++ []
serve-owed s None x h = sym (append-nil (owed s x))
serve-owed s (Some r) x h =
    let there : list_any (is_of x) s.openings ≡ true = sym (any-read s.openings r.opening x r.count) ∙ h in
    answer-owed s r x there ∙ sym (append-nil (owed s x))

leave-owed : (s : PortsState) (o x : ℕ) → HasJoined (after_leave s o) x → owed (after_leave s o) x ≡ owed s x ++ []
leave-owed s o x h =
    ap owed_in (inbox-left s.openings o x apart) ∙ sym (append-nil (owed s x))
  where
    apart : x ≡ o → ⊥
    apart g =
        let gone : list_any (is_of x) (filter (λ p. not (is_of o p)) s.openings) ≡ false =
        ap (λ y. list_any (is_of y) (filter (λ p. not (is_of o p)) s.openings)) g ∙ none-left s.openings o in
        let bad : true ≡ false = sym h ∙ gone in cc

pub loses : LosesNothing
loses s (Add name) x a h = sym (append-nil (owed s x))
loses s (Join port o) x a h = join-owed s port o x a h
loses s (Deliver name message keep) x a h = deliver-owed s (number_of s.ports name) message keep x a h
loses s (Ask r) x a h = ask-owed s r x h
loses s Serve x a h = serve-owed s (next_of s) x h
loses s (Cancel conn tag) x a h = sym (append-nil (owed s x))
loses s (Leave o) x a h = leave-owed s o x h

pub gets : GetsEachMessage
gets s [] x a h = sym (append-nil (owed s x))
gets s (c ∷ cs) x a h =
    append_assoc (given_by s c x) (all_given (after_call s c) cs x) (owed (run (after_call s c) cs) x)
    ∙ ap (λ r. given_by s c x ++ r) (gets (after_call s c) cs x a.1 h.1)
    ∙ sym (append_assoc (given_by s c x) (owed (after_call s c) x) (all_delivered (after_call s c) cs x))
    ∙ ap (λ l. l ++ all_delivered (after_call s c) cs x) (loses s c x a.0 h.0)
    ∙ append_assoc (owed s x) (delivered_by s c x) (all_delivered (after_call s c) cs x)

pub begins : BeginsWithNothing
begins s x h = ap owed_in (inbox-missing s.openings x h)

-- ---- what is kept

pub kept-with : (ps : List Port) (port : ℕ) → kept_of (with_kept ps port []) port ≡ []
kept-with [] port = refl
kept-with (p ∷ ps) zero = refl
kept-with (p ∷ ps) (suc port) = kept-with ps port

pub kept-with_other : (ps : List Port) (port other : ℕ) → other ≢ port
    → kept_of (with_kept ps port []) other ≡ kept_of ps other
kept-with_other [] port other d = refl
kept-with_other (p ∷ ps) zero zero d = absurd (d refl)
kept-with_other (p ∷ ps) zero (suc other) d = refl
kept-with_other (p ∷ ps) (suc port) zero d = refl
kept-with_other (p ∷ ps) (suc port) (suc other) d = kept-with_other ps port other (λ e. d (ap suc e))

pub once : KeptOnce
once = record {
  taken = λ s port opening. kept-with s.ports port;
  others = λ s port other opening d. kept-with_other s.ports port other d;
  copied = λ s port message e. ap (λ b. (cond b (record s { openings = map (delivered port message) s.openings })
      (record s { ports = with_kept s.ports port (kept_of s.ports port ++ message ∷ []) })).ports) e;
  kept = λ s port message e. ap (λ b. (cond b (record s { openings = map (delivered port message) s.openings })
      (record s { ports = with_kept s.ports port (kept_of s.ports port ++ message ∷ []) })).openings) e;
}

-- ---- a cancelled read

not_found : (p : Asker → Bool) (rs : List Asker) (conn tag : ℕ) (r : Asker) → find p (without_read rs conn tag) ≡ Some r
    → is_read conn tag r ≡ false
not_found p [] conn tag r h = cc
not_found p (x ∷ xs) conn tag r h =
    (elim (is_read conn tag x) as (λ b. is_read conn tag x ≡ b → find p
    (cond (not b) (x ∷ without_read xs conn tag) (without_read xs conn tag)) ≡ Some r → is_read conn tag r ≡ false) [
      | true ↦ λ e k. not_found p xs conn tag r k
      | false ↦ λ e k.
          (elim (p x) as (λ b. cond b (Some x) (find p (without_read xs conn tag)) ≡ Some r
          → is_read conn tag r ≡ false) [
            | true ↦ λ k. let same : x ≡ r = cc in sym (ap (is_read conn tag) same)
                ∙ e
            | false ↦ λ k. not_found p xs conn tag r k
          ]) k
    ]) refl h

pub cancelled_not_next : CancelledIsNotNext
cancelled_not_next s conn tag r h = not_found (is_ready s.openings) s.reads conn tag r h
