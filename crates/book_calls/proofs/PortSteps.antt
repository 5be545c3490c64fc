-- One call: what it gives to an opening, and which messages it brings.
use Rattle.std.proofs.Common.{◌≡◌, ◌==◌, ℕ, ◌+◌, ◌≤◌, ◌||◌, Bool, true, false, not, cond, List, [], ◌∷◌, ◌++◌, map}
use Rattle.std.proofs.Common.{filter, Option, Some, None, option_map, refl, sym, ap, ◌∙◌, append_assoc, append-nil}
use Rattle.std.proofs.Common.{arith}
use Rattle.std.specs.List.{concat, list_any}
use Rattle.std.proofs.lemmas.Bool.{eqb-true}
use Rattle.std.proofs.lemmas.List.Folds.{concat-append, list_any-append}
use Rattle.wait_queue.specs.declared.types.Asker.{Asker}
use Rattle.wait_queue.specs.declared.types.Piece.{Piece}
use Rattle.plumb_ports.specs.PortList.{number_of, kept_of, with_kept}
use Rattle.plumb_ports.specs.Inboxes.{received, Inbox, blank, is_of, is_on, inbox_of, inbox_with, delivered, piece_of}
use Rattle.plumb_ports.specs.PortsState.{PortsState, HasJoined, has_joined, is_open, read_waits, piece_for, next_of}
use Rattle.plumb_ports.specs.PortsState.{after_next, delivered_at, delivered_on, after_answer, after_ask}
use Rattle.plumb_ports.specs.Laws.{Call, Add, Join, Deliver, Ask, Serve, Cancel, Leave, after_call, owed, owed_in}
use Rattle.plumb_ports.specs.Laws.{answer_to, served_to, given_by, message_to, delivered_by, AreNumbered, IsNumbered}
use Rattle.plumb_ports.proofs.LawLemmas.{inbox-missing, inbox-delivered, any-pushed, any-delivered, any-read, loses}
use Rattle.plumb_ports.proofs.LawLemmas.{begins}
use Rattle.plumb_ports.proofs.NumberLemmas.{call_numbers, numbered}
use Rattle.book_calls.specs.Calls.{if_answered, bytes_to}
use Rattle.book_calls.specs.PortCalls.{CanCall, answers_of, coming_on, comes_to}
use Rattle.book_calls.specs.PortLaws.{GetsItsMessages}

pub numbers : (s : PortsState) (c : Call) → CanCall s c → IsNumbered s c
numbers s (Add name) a = tt
numbers s (Join port opening) a = a.0
numbers s (Deliver name message keep) a = tt
numbers s (Ask r) a = tt
numbers s Serve a = tt
numbers s (Cancel conn tag) a = tt
numbers s (Leave opening) a = tt

-- ---- bytes

served_bytes : (s : PortsState) (o : Option Asker) (x : ℕ) → bytes_to x
    (if_answered (option_map (λ r. (r, piece_for s r)) o)) ≡ served_to s o x
served_bytes s None x = refl
served_bytes s (Some r) x = append-nil (answer_to s r x)

given_bytes : (s : PortsState) (c : Call) (x : ℕ) → bytes_to x (answers_of s c) ≡ given_by s c x
given_bytes s (Add name) x = refl
given_bytes s (Join port opening) x = refl
given_bytes s (Deliver name message keep) x = refl
given_bytes s (Ask r) x =
    elim (read_waits s r) as (λ b. bytes_to x (cond b [] ((r, piece_for s r) ∷ [])) ≡ cond b [] (answer_to s r x)) [
      | true ↦ refl
      | false ↦ append-nil (answer_to s r x)
    ]
given_bytes s Serve x = served_bytes s (next_of s) x
given_bytes s (Cancel conn tag) x = refl
given_bytes s (Leave opening) x = refl

-- ---- which openings are there

same_at : (s : PortsState) (port : ℕ) (message : List ℕ) (x : ℕ) → has_joined (delivered_at s port message)
    x ≡ has_joined s x
same_at s port message x =
    elim (is_open s port) as (λ b. has_joined (cond b copied kept) x ≡ has_joined s x) [
      | true ↦ any-delivered port message s.openings x
      | false ↦ refl
    ]
  where
    copied : PortsState
    copied = record s { openings = map (delivered port message) s.openings }

    kept : PortsState
    kept = record s { ports = with_kept s.ports port (kept_of s.ports port ++ message ∷ []) }

same_on : (number : Option ℕ) (s : PortsState) (message : List ℕ) (x : ℕ)
    → has_joined (delivered_on number s message) x ≡ has_joined s x
same_on None s message x = refl
same_on (Some port) s message x = same_at s port message x

same_ask : (s : PortsState) (r : Asker) (x : ℕ) → has_joined (after_ask s r) x ≡ has_joined s x
same_ask s r x =
    elim (read_waits s r) as (λ b. has_joined (cond b waiting (after_answer s r)) x ≡ has_joined s x) [
      | true ↦ refl
      | false ↦ any-read s.openings r.opening x r.count
    ]
  where
    waiting : PortsState
    waiting = record s { reads = s.reads ++ r ∷ [] }

same_next : (o : Option Asker) (s : PortsState) (x : ℕ) → has_joined (after_next o s) x ≡ has_joined s x
same_next None s x = refl
same_next (Some r) s x = any-read s.openings r.opening x r.count

any_left : (t : Inbox → Bool) (os : List Inbox) (x : ℕ) → list_any (is_of x) (filter t os) ≡ true → list_any (is_of x)
    os ≡ true
any_left t [] x h = h
any_left t (o ∷ os) x h =
    (elim (t o) as (λ b. list_any (is_of x) (cond b (o ∷ filter t os) (filter t os)) ≡ true →
    (is_of x o || list_any (is_of x) os) ≡ true) [
      | true ↦ λ k.
          (elim (is_of x o) as (λ b. (b || list_any (is_of x) (filter t os)) ≡ true →
          (b || list_any (is_of x) os) ≡ true) [
            | true ↦ λ j. refl
            | false ↦ λ j. any_left t os x j
          ]) k
      | false ↦ λ k. or_right (is_of x o) (list_any (is_of x) os) (any_left t os x k)
    ]) h
  where
    or_right : (a b : Bool) → b ≡ true → (a || b) ≡ true
    or_right true b j = refl
    or_right false b j = j

-- one that is there after a call and was not before is the one that joined
born : (s : PortsState) (c : Call) (x : ℕ) → CanCall s c → has_joined s x ≡ false → has_joined (after_call s c)
    x ≡ true → x ≡ s.joined + 1
born s (Add name) x a f t = let bad : false ≡ true = sym f ∙ t in absurd cc
born s (Join port opening) x a f t =
    let same : opening ≡ x = eqb-true opening x (any-pushed s.openings (inbox_with opening port (kept_of s.ports port))
    x f t) in
    sym same ∙ a.0
born s (Deliver name message keep) x a f t = let bad : false ≡ true = sym f
    ∙ sym (same_on (number_of s.ports name) s message x) ∙ t in absurd cc
born s (Ask r) x a f t = let bad : false ≡ true = sym f ∙ sym (same_ask s r x) ∙ t in absurd cc
born s Serve x a f t = let bad : false ≡ true = sym f ∙ sym (same_next (next_of s) s x) ∙ t in absurd cc
born s (Cancel conn tag) x a f t = let bad : false ≡ true = sym f ∙ t in absurd cc
born s (Leave opening) x a f t = let bad : false ≡ true = sym f ∙ any_left (λ o. not (is_of opening o)) s.openings x
    t in absurd cc

next_joined : (o : Option Asker) (s : PortsState) → s.joined ≤ (after_next o s).joined
next_joined None s = omega arith
next_joined (Some r) s = omega arith

at_joined : (s : PortsState) (port : ℕ) (message : List ℕ) → (delivered_at s port message).joined ≡ s.joined
at_joined s port message = elim (is_open s port) as (λ b. (cond b copied kept).joined ≡ s.joined)
    [ true ↦ refl | false ↦ refl ]
  where
    copied : PortsState
    copied = record s { openings = map (delivered port message) s.openings }

    kept : PortsState
    kept = record s { ports = with_kept s.ports port (kept_of s.ports port ++ message ∷ []) }

on_joined : (number : Option ℕ) (s : PortsState) (message : List ℕ) → (delivered_on number s message).joined ≡ s.joined
on_joined None s message = refl
on_joined (Some port) s message = at_joined s port message

ask_joined : (s : PortsState) (r : Asker) → (after_ask s r).joined ≡ s.joined
ask_joined s r = elim (read_waits s r) as (λ b. (cond b waiting (after_answer s r)).joined ≡ s.joined)
    [ true ↦ refl | false ↦ refl ]
  where
    waiting : PortsState
    waiting = record s { reads = s.reads ++ r ∷ [] }

-- no call takes a number back
grows : (s : PortsState) (c : Call) → s.joined ≤ (after_call s c).joined
grows s (Add name) = omega arith
grows s (Join port opening) = omega arith
grows s (Deliver name message keep) = let same = on_joined (number_of s.ports name) s message in omega arith
grows s (Ask r) = let same = ask_joined s r in omega arith
grows s Serve = next_joined (next_of s) s
grows s (Cancel conn tag) = omega arith
grows s (Leave opening) = omega arith

-- ---- messages

on_bytes : (number : Option ℕ) (s : PortsState) (message : List ℕ) (x : ℕ)
    → concat (coming_on number s message x) ≡ message_to number message (inbox_of s.openings x)
on_bytes None s message x = refl
on_bytes (Some port) s message x =
    elim (is_on port (inbox_of s.openings x)) as (λ b. concat (cond b (message ∷ []) []) ≡ cond b message [])
    [ true ↦ append-nil message | false ↦ refl ]

-- what comes to an opening that is there behind the call is what is delivered to it
coming_bytes : (s : PortsState) (c : Call) (x : ℕ) → has_joined (after_call s c) x ≡ true →
    concat (comes_to x s c) ≡ delivered_by s c x
coming_bytes s (Add name) x t = refl
coming_bytes s (Join port o) x t = elim (o == x) as (λ b. concat (cond b (kept_of s.ports port) []) ≡ cond b
    (concat (kept_of s.ports port)) []) [ true ↦ refl | false ↦ refl ]
coming_bytes s (Deliver name message keep) x t =
    let there : has_joined s x ≡ true = sym (same_on (number_of s.ports name) s message x) ∙ t in
    ap (λ b. concat (cond b (coming_on (number_of s.ports name) s message x) [])) there
    ∙ on_bytes (number_of s.ports name) s message x
coming_bytes s (Ask r) x t = refl
coming_bytes s Serve x t = refl
coming_bytes s (Cancel conn tag) x t = refl
coming_bytes s (Leave o) x t = refl

-- ---- nothing is lost

-- where a port has no opening, none that is there is one of it
not_on : (port : ℕ) (os : List Inbox) (x : ℕ) → list_any (is_on port) os ≡ false → list_any (is_of x) os ≡ true →
    is_on port (inbox_of os x) ≡ false
not_on port [] x h j = absurd cc
not_on port (o ∷ os) x h j = by (is_on port o) refl (is_of x o) refl (not_on port os x)
  where
    by : (b : Bool) → is_on port o ≡ b → (t : Bool) → is_of x o ≡ t →
        (list_any (is_on port) os ≡ false → list_any (is_of x) os ≡ true → is_on port (inbox_of os x) ≡ false)
        → is_on port (inbox_of (o ∷ os) x) ≡ false
    by true e t f later = let bad : true ≡ false = rw e at h in absurd cc
    by false e true f later = ap (λ b. is_on port (cond b o (inbox_of os x))) f ∙ e
    by false e false f later = ap (λ b. is_on port (cond b o (inbox_of os x))) f ∙ later (rw e at h) (rw f at j)

owed_received : (message : List ℕ) (o : Inbox) → owed_in (received message o) ≡ owed_in o ++ message
owed_received message o =
    ap (λ (l : List ℕ). o.carry ++ l) (concat-append o.messages (message ∷ [])
    ∙ ap (λ (l : List ℕ). concat o.messages ++ l) (append-nil message))
    ∙ sym (append_assoc o.carry (concat o.messages) message)

owed_delivered : (port : ℕ) (message : List ℕ) (o : Inbox) → owed_in (delivered port message o)
    ≡ owed_in o ++ cond (is_on port o) message []
owed_delivered port message o =
    elim (is_on port o) as (λ b. owed_in (cond b (received message o) o) ≡ owed_in o ++ cond b message []) [
      | true ↦ owed_received message o
      | false ↦ sym (append-nil (owed_in o))
    ]

at_owed : (s : PortsState) (port : ℕ) (message : List ℕ) (x : ℕ) → has_joined s x ≡ true →
    owed (delivered_at s port message) x ≡ owed s x ++ cond (is_on port (inbox_of s.openings x)) message []
at_owed s port message x t = by (is_open s port) refl
  where
    copied : PortsState
    copied = record s { openings = map (delivered port message) s.openings }

    kept : PortsState
    kept = record s { ports = with_kept s.ports port (kept_of s.ports port ++ message ∷ []) }

    by : (b : Bool) → is_open s port ≡ b → owed (delivered_at s port message) x ≡ owed s x
        ++ cond (is_on port (inbox_of s.openings x)) message []
    by true e =
        ap (λ b. owed (cond b copied kept) x) e
        ∙ ap owed_in (inbox-delivered port message s.openings x t)
        ∙ owed_delivered port message (inbox_of s.openings x)
    by false e =
        ap (λ b. owed (cond b copied kept) x) e ∙ sym (append-nil (owed s x))
        ∙ ap (λ b. owed s x ++ cond b message []) (sym (not_on port s.openings x e t))

on_owed : (number : Option ℕ) (s : PortsState) (message : List ℕ) (x : ℕ)
    → has_joined s x ≡ true → owed (delivered_on number s message) x ≡ owed s x
    ++ message_to number message (inbox_of s.openings x)
on_owed None s message x t = sym (append-nil (owed s x))
on_owed (Some port) s message x t = at_owed s port message x t

-- what a call gives, with what is then still to come, is what was to come with what it delivers
kept_whole : (s : PortsState) (c : Call) (x : ℕ) → CanCall s c → has_joined (after_call s c) x ≡ true
    → given_by s c x ++ owed (after_call s c) x ≡ owed s x ++ delivered_by s c x
kept_whole s (Add name) x a t = loses s (Add name) x tt t
kept_whole s (Join port opening) x a t = loses s (Join port opening) x a.1 t
kept_whole s (Deliver name message keep) x a t = on_owed (number_of s.ports name) s message x
    (sym (same_on (number_of s.ports name) s message x) ∙ t)
kept_whole s (Ask r) x a t = loses s (Ask r) x tt t
kept_whole s Serve x a t = loses s Serve x tt t
kept_whole s (Cancel conn tag) x a t = loses s (Cancel conn tag) x tt t
kept_whole s (Leave opening) x a t = loses s (Leave opening) x tt t

-- ---- an opening that isn't there behind the call is given nothing, and nothing comes to it

record IsQuiet (s : PortsState) (c : Call) (x : ℕ) : Type 0 where
  given : given_by s c x ≡ []
  coming : comes_to x s c ≡ []

not_asked : (s : PortsState) (r : Asker) (x : ℕ) → HasJoined s r.opening
    → has_joined s x ≡ false → given_by s (Ask r) x ≡ []
not_asked s r x t f = by (r.opening == x) refl
  where
    by : (b : Bool) → (r.opening == x) ≡ b → given_by s (Ask r) x ≡ []
    by true e = let bad : true ≡ false = sym t ∙ ap (has_joined s) (eqb-true r.opening x e) ∙ f in absurd cc
    by false e =
        ap (λ b. cond (read_waits s r) [] (cond b (piece_for s r).bytes [])) e
        ∙ elim (read_waits s r) as (λ b. cond {A = List ℕ} b [] [] ≡ []) [ true ↦ refl | false ↦ refl ]

abbrev nothing : Piece
nothing = record { bytes = []; taken = None }

blank_piece : (x count : ℕ) → (piece_of (blank x 0) count).bytes ≡ []
blank_piece x count =
    elim (count == 0) as (λ b. (cond b nothing nothing).bytes ≡ []) [ true ↦ refl | false ↦ refl ]

not_served : (s : PortsState) (o : Option Asker) (x : ℕ) → has_joined s x ≡ false → served_to s o x ≡ []
not_served s None x f = refl
not_served s (Some r) x f = by (r.opening == x) refl
  where
    by : (b : Bool) → (r.opening == x) ≡ b → answer_to s r x ≡ []
    by true e =
        let gone : has_joined s r.opening ≡ false = ap (has_joined s) (eqb-true r.opening x e) ∙ f in
        ap (λ b. cond b (piece_for s r).bytes []) e
        ∙ ap (λ (o : Inbox). (piece_of o r.count).bytes) (inbox-missing s.openings r.opening gone)
        ∙ blank_piece r.opening r.count
    by false e = ap (λ b. cond b (piece_for s r).bytes []) e

join_apart : (s : PortsState) (port o x : ℕ) → has_joined (after_call s (Join port o)) x ≡ false → (o == x) ≡ false
join_apart s port o x f = by (o == x) refl
  where
    by : (b : Bool) → (o == x) ≡ b → (o == x) ≡ false
    by true e =
        let last : list_any (is_of x) (s.openings ++ inbox_with o port (kept_of s.ports port) ∷ [])
        ≡ (list_any (is_of x) s.openings || ((o == x) || false)) =
        list_any-append (is_of x) s.openings (inbox_with o port (kept_of s.ports port) ∷ [])
        in
        let all : (list_any (is_of x) s.openings || ((o == x) || false)) ≡ true =
        ap (λ b. list_any (is_of x) s.openings || (b || false)) e ∙ elim (list_any (is_of x) s.openings) as
        (λ b. (b || true) ≡ true) [ true ↦ refl | false ↦ refl ]
        in
        let bad : true ≡ false = sym (last ∙ all) ∙ f in absurd cc
    by false e = e

quiet : (s : PortsState) (c : Call) (x : ℕ) → CanCall s c → has_joined (after_call s c) x ≡ false → IsQuiet s c x
quiet s (Add name) x a f = record { given = refl; coming = refl }
quiet s (Join port o) x a f = record {
  given = refl;
  coming = ap (λ b. cond b (kept_of s.ports port) [])
      (join_apart s port o x f);
}
quiet s (Deliver name message keep) x a f =
    let gone : has_joined s x ≡ false = sym (same_on (number_of s.ports name) s message x) ∙ f in
    record { given = refl; coming = ap (λ b. cond b (coming_on (number_of s.ports name) s message x) []) gone }
quiet s (Ask r) x a f = record { given = not_asked s r x a (sym (same_ask s r x) ∙ f); coming = refl }
quiet s Serve x a f = record { given = not_served s (next_of s) x (sym (same_next (next_of s) s x) ∙ f); coming = refl }
quiet s (Cancel conn tag) x a f = record { given = refl; coming = refl }
quiet s (Leave o) x a f = record { given = refl; coming = refl }

-- ---- one call more

module _ (given : List ℕ) (coming : List (List ℕ)) (s : PortsState) (c : Call) (x : ℕ) where
  -- what is missing before the call is what is still to come, if the opening is there behind it
  owes : CanCall s c → has_joined (after_call s c) x ≡ true → (g : GetsItsMessages given coming s x)
      → g.missing ≡ owed s x
  owes a t g = by (has_joined s x) refl
    where
      by : (b : Bool) → has_joined s x ≡ b → g.missing ≡ owed s x
      by true e = g.there e
      by false e = let new : x ≡ s.joined + 1 = born s c x a e t in g.before (omega arith) ∙ sym (begins s x e)

  stays_there : AreNumbered s → CanCall s c → has_joined (after_call s c) x ≡ true → GetsItsMessages given coming s x
      → GetsItsMessages (given ++ bytes_to x (answers_of s c)) (coming ++ comes_to x s c) (after_call s c) x
  stays_there n a t g = record {
    missing = owed (after_call s c) x;
    joined =
        append_assoc given (bytes_to x (answers_of s c)) (owed (after_call s c) x)
        ∙ ap (λ (l : List ℕ). given ++ (l ++ owed (after_call s c) x)) (given_bytes s c x)
        ∙ ap (λ (l : List ℕ). given ++ l) (kept_whole s c x a t)
        ∙ sym (append_assoc given (owed s x) (delivered_by s c x))
        ∙ ap (λ (l : List ℕ). (given ++ l) ++ delivered_by s c x) (sym (owes a t g))
        ∙ ap (λ (l : List ℕ). l ++ delivered_by s c x) g.joined
        ∙ ap (λ (l : List ℕ). concat coming ++ l) (sym (coming_bytes s c x t))
        ∙ sym (concat-append coming (comes_to x s c));
    there = λ _. refl;
    before = λ l. let within : x ≤ (after_call s c).joined = numbered (after_call s c).joined (after_call s c).openings
        x (call_numbers s c (numbers s c a) n) t in absurd (omega arith);
  }

  stays_gone : CanCall s c → has_joined (after_call s c) x ≡ false → GetsItsMessages given coming s x
      → GetsItsMessages (given ++ bytes_to x (answers_of s c)) (coming ++ comes_to x s c) (after_call s c) x
  stays_gone a f g =
      let q : IsQuiet s c x = quiet s c x a f in
      record {
        missing = g.missing;
        joined =
            ap (λ (l : List ℕ). (given ++ l) ++ g.missing) (given_bytes s c x ∙ q.given)
            ∙ ap (λ (l : List ℕ). l ++ g.missing) (append-nil given)
            ∙ g.joined
            ∙ ap concat (sym (append-nil coming) ∙ ap (λ (l : List (List ℕ)). coming ++ l) (sym q.coming));
        there = λ t. let bad : true ≡ false = sym t ∙ f in absurd cc;
        before = λ l. let more : s.joined ≤ (after_call s c).joined = grows s c in g.before (omega arith);
      }

  pub gets_call : AreNumbered s → CanCall s c → GetsItsMessages given coming s x
      → GetsItsMessages (given ++ bytes_to x (answers_of s c)) (coming ++ comes_to x s c) (after_call s c) x
  gets_call n a g = by (has_joined (after_call s c) x) refl
    where
      by : (b : Bool) → has_joined (after_call s c) x ≡ b → GetsItsMessages (given ++ bytes_to x (answers_of s c))
          (coming ++ comes_to x s c) (after_call s c) x
      by true e = stays_there n a e g
      by false e = stays_gone a e g
