-- How many messages are kept, and where.
use Rattle.std.proofs.Common.{◌≡◌, ◌≢◌, ◌==◌, ◌≤◌, ◌<◌, ◌||◌, ℕ, zero, suc, Bool, true, false, cond, not, List, [], ◌∷◌}
use Rattle.std.proofs.Common.{◌++◌, length, map, filter, Option, Some, None, refl, sym, ap, ◌∙◌, arith, length-append}
use Rattle.std.proofs.lemmas.Bool.{eqb-true, eq-eqb}
use Rattle.std.proofs.lemmas.Bool.Decides.{nat_tests}
use Rattle.std.specs.List.{list_any}
use Rattle.wait_queue.specs.declared.types.Asker.{Asker}
use Rattle.plumb_ports.specs.PortList.{Port, named, number_of, with_name, kept_of, with_kept}
use Rattle.plumb_ports.specs.Inboxes.{Inbox, is_of, is_on, received, delivered, after_piece_from, after_piece}
use Rattle.plumb_ports.specs.Inboxes.{after_read}
use Rattle.plumb_ports.specs.PortsState.{PortsState, beginning, is_open, is_full, read_waits, next_of, refusal_at}
use Rattle.plumb_ports.specs.PortsState.{refusal_on, after_join, delivered_at, delivered_on, after_next, after_answer}
use Rattle.plumb_ports.specs.declared.fault.PortFault.TheVariants.{Closed, Full}
use Rattle.plumb_ports.specs.Laws.{Call, Add, Join, Deliver, Ask, Serve, Cancel, Leave, IsAllowed, AreAllowed}
use Rattle.plumb_ports.specs.Laws.{after_call, run, IsLawful, StaysLawful}
use Rattle.plumb_ports.proofs.LawLemmas.{kept-with, kept-with_other}

-- ---- which ports are open

port-piece_from : (carry : List ℕ) (ms : List (List ℕ)) (o : Inbox) (n : ℕ)
    → (after_piece_from carry ms o n).port ≡ o.port
port-piece_from (b ∷ bs) ms o n = refl
port-piece_from [] (m ∷ ms) o n = refl
port-piece_from [] [] o n = refl

port-piece : (o : Inbox) (n : ℕ) → (after_piece o n).port ≡ o.port
port-piece o n =
    elim (n == 0) as (λ b. (cond b o (after_piece_from o.carry o.messages o n)).port ≡ o.port)
    [ true ↦ refl | false ↦ port-piece_from o.carry o.messages o n ]

open-read : (port : ℕ) (os : List Inbox) (x n : ℕ) → list_any (is_on port) (after_read os x n) ≡ list_any (is_on port)
    os
open-read port [] x n = refl
open-read port (o ∷ os) x n = by (is_of x o) refl (open-read port os x n)
  where
    by : (b : Bool) → is_of x o ≡ b → list_any (is_on port) (after_read os x n) ≡ list_any (is_on port) os
        → list_any (is_on port) (after_read (o ∷ os) x n) ≡ list_any (is_on port) (o ∷ os)
    by true e later =
        ap (λ b. list_any (is_on port) (cond b (after_piece o n ∷ os) (o ∷ after_read os x n))) e
        ∙ ap (λ m. (m == port) || list_any (is_on port) os) (port-piece o n)
    by false e later =
        ap (λ b. list_any (is_on port) (cond b (after_piece o n ∷ os) (o ∷ after_read os x n))) e
        ∙ ap (λ b. is_on port o || b) later

port-delivered : (port : ℕ) (message : List ℕ) (o : Inbox) → (delivered port message o).port ≡ o.port
port-delivered port message o =
    elim (is_on port o) as (λ b. (cond b (received message o) o).port ≡ o.port) [ true ↦ refl | false ↦ refl ]

open-delivered : (other port : ℕ) (message : List ℕ) (os : List Inbox)
    → list_any (is_on other) (map (delivered port message) os) ≡ list_any (is_on other) os
open-delivered other port message [] = refl
open-delivered other port message (o ∷ os) =
    ap (λ n. (n == other) || list_any (is_on other) (map (delivered port message) os)) (port-delivered port message o)
    ∙ ap (λ b. is_on other o || b) (open-delivered other port message os)

-- an opening that leaves opens no port
open-left : (port : ℕ) (os : List Inbox) (x : ℕ) → list_any (is_on port) (filter (λ o. not (is_of x o)) os) ≡ true →
    list_any (is_on port) os ≡ true
open-left port [] x h = h
open-left port (o ∷ os) x h = by (is_of x o) refl (is_on port o) refl (open-left port os x)
  where
    by : (b : Bool) → is_of x o ≡ b → (t : Bool) → is_on port o ≡ t →
        (list_any (is_on port) (filter (λ p. not (is_of x p)) os) ≡ true → list_any (is_on port) os ≡ true)
        → list_any (is_on port) (o ∷ os) ≡ true
    by b e true f later = rw f
    by true e false f later = rw f (later (rw e at h))
    by false e false f later = rw f (later (rw f at (rw e at h)))

-- one that joins opens its port alone
open-joined : (other port : ℕ) (os : List Inbox) (new : Inbox) → new.port ≡ port → other ≢ port
    → list_any (is_on other) (os ++ new ∷ []) ≡ true → list_any (is_on other) os ≡ true
open-joined other port [] new e d h = by (is_on other new) refl
  where
    by : (b : Bool) → is_on other new ≡ b → list_any (is_on other) [] ≡ true
    by true f = absurd (d (sym (eqb-true new.port other f) ∙ e))
    by false f = let bad : false ≡ true = rw f at h in cc
open-joined other port (o ∷ os) new e d h = by (is_on other o) refl (open-joined other port os new e d)
  where
    by : (b : Bool) → is_on other o ≡ b → (list_any (is_on other) (os ++ new ∷ []) ≡ true → list_any (is_on other)
        os ≡ true) → list_any (is_on other) (o ∷ os) ≡ true
    by true f later = rw f
    by false f later = rw f (later (rw f at h))

-- ---- what ports keep

kept-added : (ps : List Port) (name : List ℕ) (port : ℕ) → kept_of (ps ++ named name ∷ []) port ≡ kept_of ps port
kept-added [] name zero = refl
kept-added [] name (suc port) = refl
kept-added (p ∷ ps) name zero = refl
kept-added (p ∷ ps) name (suc port) = kept-added ps name port

-- a port that is written keeps that, if it is there
kept-set : (ps : List Port) (port : ℕ) (messages : List (List ℕ)) → length messages ≤ 64
    → length (kept_of (with_kept ps port messages) port) ≤ 64
kept-set [] port messages l = omega arith
kept-set (p ∷ ps) zero messages l = l
kept-set (p ∷ ps) (suc port) messages l = kept-set ps port messages l

kept-set_other : (ps : List Port) (port other : ℕ) (messages : List (List ℕ)) → other ≢ port
    → kept_of (with_kept ps port messages) other ≡ kept_of ps other
kept-set_other [] port other messages d = refl
kept-set_other (p ∷ ps) zero zero messages d = absurd (d refl)
kept-set_other (p ∷ ps) zero (suc other) messages d = refl
kept-set_other (p ∷ ps) (suc port) zero messages d = refl
kept-set_other (p ∷ ps) (suc port) (suc other) messages d = kept-set_other ps port other messages (λ e. d (ap suc e))

apart : (a b : ℕ) → (a == b) ≡ false → a ≢ b
apart a b e g = let t : (a == b) ≡ true = eq-eqb a b g in let bad : true ≡ false = sym t ∙ e in cc

-- ---- each call

lawful-add : (s : PortsState) (number : Option ℕ) (name : List ℕ) → IsLawful s
    → IsLawful (record s { ports = with_name number s.ports name })
lawful-add s None name h = record {
  few = λ port. rw (kept-added s.ports name port) (h.few port);
  none = λ port e. kept-added s.ports name port ∙ h.none port e;
}
lawful-add s (Some number) name h = record { few = h.few; none = h.none }

lawful-join : (s : PortsState) (port opening : ℕ) → IsLawful s → IsLawful (after_join s port opening)
lawful-join s port opening h = record {
  few = λ other. few other (other == port) refl;
  none = λ other e. none other e (other == port) refl;
}
  where
    new : Inbox
    new = record { opening = opening; port = port; messages = kept_of s.ports port; carry = [] }

    few : (other : ℕ) (b : Bool) → (other == port) ≡ b → length (kept_of (with_kept s.ports port []) other) ≤ 64
    few other true e =
        let same : other ≡ port = eqb-true other port e in
        let here : kept_of (with_kept s.ports port []) other ≡ [] = ap (kept_of (with_kept s.ports port [])) same
        ∙ kept-with s.ports port in
        rw here (omega arith)
    few other false e = rw (kept-with_other s.ports port other (apart other port e)) (h.few other)

    none : (other : ℕ) → list_any (is_on other) (s.openings ++ new ∷ []) ≡ true → (b : Bool)
        → (other == port) ≡ b → kept_of (with_kept s.ports port []) other ≡ []
    none other o true e = ap (kept_of (with_kept s.ports port [])) (eqb-true other port e) ∙ kept-with s.ports port
    none other o false e =
        let d : other ≢ port = apart other port e in
        kept-with_other s.ports port other d ∙ h.none other (open-joined other port s.openings new refl d o)

-- a message that isn't refused finds fewer than 64 kept, or an opening
room-at : (s : PortsState) (port : ℕ) (keep : Bool) → is_open s port ≡ false → refusal_at s port keep ≡ None →
    length (kept_of s.ports port) < 64
room-at s port keep e a = by keep (rw e at a) (is_full s port) refl
  where
    by : (k : Bool) → cond (not k) (Some Closed) (cond (is_full s port) (Some Full) None) ≡ None → (b : Bool)
        → is_full s port ≡ b → length (kept_of s.ports port) < 64
    by false r b f = cc
    by true r true f = let bad : Some Full ≡ None = rw f at r in cc
    by true r false f = grind (arith, nat_tests)

lawful-deliver_at : (s : PortsState) (port : ℕ) (message : List ℕ) (keep : Bool)
    → refusal_at s port keep ≡ None → IsLawful s → IsLawful (delivered_at s port message)
lawful-deliver_at s port message keep a h = by (is_open s port) refl
  where
    more : List (List ℕ)
    more = kept_of s.ports port ++ message ∷ []

    kept : PortsState
    kept = record s { ports = with_kept s.ports port more }

    copied : PortsState
    copied = record s { openings = map (delivered port message) s.openings }

    few : length more ≤ 64 → (other : ℕ) (b : Bool) → (other == port) ≡ b →
        length (kept_of (with_kept s.ports port more) other) ≤ 64
    few l other true e = rw (eqb-true other port e) (kept-set s.ports port more l)
    few l other false e = rw (kept-set_other s.ports port other more (apart other port e)) (h.few other)

    none : is_open s port ≡ false → (other : ℕ) → is_open s other ≡ true → (b : Bool)
        → (other == port) ≡ b → kept_of (with_kept s.ports port more) other ≡ []
    none c other o true e =
        let bad : true ≡ false = sym o ∙ ap (is_open s) (eqb-true other port e) ∙ c in cc
    none c other o false e = kept-set_other s.ports port other more (apart other port e) ∙ h.none other o

    by : (b : Bool) → is_open s port ≡ b → IsLawful (delivered_at s port message)
    by true e = rw e (record {
      few = h.few;
      none = λ other o. h.none other (sym (open-delivered other port message s.openings) ∙ o);
    })
    by false e =
        let l : length more ≤ 64 = omega (
          arith,
          room-at s port keep e a,
          length-append (kept_of s.ports port) (message ∷ []),
        ) in
        rw e (record {
          few = λ other. few l other (other == port) refl;
          none = λ other o. none e other o (other == port) refl;
        })

lawful-deliver : (s : PortsState) (number : Option ℕ) (message : List ℕ) (keep : Bool)
    → refusal_on number s keep ≡ None → IsLawful s → IsLawful (delivered_on number s message)
lawful-deliver s None message keep a h = h
lawful-deliver s (Some port) message keep a h = lawful-deliver_at s port message keep a h

lawful-answer : (s : PortsState) (r : Asker) → IsLawful s → IsLawful (after_answer s r)
lawful-answer s r h = record {
  few = h.few;
  none = λ port o. h.none port (sym (open-read port s.openings r.opening r.count) ∙ o);
}

lawful-ask : (s : PortsState) (r : Asker) (b : Bool) → IsLawful s →
    IsLawful (cond b (record s { reads = s.reads ++ r ∷ [] }) (after_answer s r))
lawful-ask s r true h = record { few = h.few; none = h.none }
lawful-ask s r false h = lawful-answer s r h

lawful-serve : (s : PortsState) (next : Option Asker) → IsLawful s → IsLawful (after_next next s)
lawful-serve s None h = h
lawful-serve s (Some r) h = record {
  few = h.few;
  none = λ port o. h.none port (sym (open-read port s.openings r.opening r.count) ∙ o);
}

lawful-call : (s : PortsState) (c : Call) → IsAllowed s c → IsLawful s → IsLawful (after_call s c)
lawful-call s (Add name) a h = lawful-add s (number_of s.ports name) name h
lawful-call s (Join port opening) a h = lawful-join s port opening h
lawful-call s (Deliver name message keep) a h = lawful-deliver s (number_of s.ports name) message keep a h
lawful-call s (Ask r) a h = lawful-ask s r (read_waits s r) h
lawful-call s Serve a h = lawful-serve s (next_of s) h
lawful-call s (Cancel conn tag) a h = record { few = h.few; none = h.none }
lawful-call s (Leave opening) a h = record {
  few = h.few;
  none = λ port o. h.none port (open-left port s.openings opening o);
}

lawful-run : (s : PortsState) (cs : List Call) → AreAllowed s cs → IsLawful s → IsLawful (run s cs)
lawful-run s [] a h = h
lawful-run s (c ∷ cs) a h = lawful-run (after_call s c) cs a.1 (lawful-call s c a.0 h)

lawful-beginning : IsLawful beginning
lawful-beginning = record { few = few; none = none }
  where
    few : (port : ℕ) → length (kept_of beginning.ports port) ≤ 64
    few zero = omega arith
    few (suc port) = omega arith

    none : (port : ℕ) → is_open beginning port ≡ true → kept_of beginning.ports port ≡ []
    none port o = cc

pub stays : StaysLawful
stays cs a = lawful-run beginning cs a lawful-beginning
