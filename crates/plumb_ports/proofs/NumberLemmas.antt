-- Openings are numbered in the order of joining.
use Rattle.std.proofs.Common.{◌≡◌, ℕ, ◌+◌, ◌≤◌, ◌&&◌, ◌||◌, Bool, true, false, not, cond, nat_le, List, [], ◌∷◌, ◌++◌}
use Rattle.std.proofs.Common.{map, filter, Option, Some, None, refl, ap, ◌∙◌, arith}
use Rattle.std.specs.List.{list_all, list_any}
use Rattle.std.proofs.lemmas.Bool.Decides.{nat_tests}
use Rattle.wait_queue.specs.declared.types.Asker.{Asker}
use Rattle.plumb_ports.specs.PortList.{number_of, kept_of, with_kept}
use Rattle.plumb_ports.specs.Inboxes.{Inbox, is_of, inbox_with, delivered, after_piece, after_read}
use Rattle.plumb_ports.specs.PortsState.{PortsState, is_open, read_waits, next_of, without_next, after_next}
use Rattle.plumb_ports.specs.PortsState.{delivered_at, delivered_on, after_answer, after_ask}
use Rattle.plumb_ports.specs.Laws.{Call, Add, Join, Deliver, Ask, Serve, Cancel, Leave, after_call, is_numbered}
use Rattle.plumb_ports.specs.Laws.{AreNumbered, IsNumbered, OpeningsAreNumbered}
use Rattle.plumb_ports.proofs.LawLemmas.{opening-delivered, opening-piece}

delivered_numbers : (joined port : ℕ) (message : List ℕ) (os : List Inbox)
    → list_all (is_numbered joined) (map (delivered port message) os) ≡ list_all (is_numbered joined) os
delivered_numbers joined port message [] = refl
delivered_numbers joined port message (o ∷ os) =
    ap (λ n. nat_le n joined && list_all (is_numbered joined) (map (delivered port message) os))
    (opening-delivered port message o)
    ∙ ap (λ b. is_numbered joined o && b) (delivered_numbers joined port message os)

read_numbers : (joined : ℕ) (os : List Inbox) (x n : ℕ) → list_all (is_numbered joined)
    (after_read os x n) ≡ list_all (is_numbered joined) os
read_numbers joined [] x n = refl
read_numbers joined (o ∷ os) x n =
    elim (is_of x o) as (λ b. list_all (is_numbered joined) (cond b (after_piece o n ∷ os) (o ∷ after_read os x n))
    ≡ (is_numbered joined o && list_all (is_numbered joined) os)) [
      | true ↦ ap (λ m. nat_le m joined && list_all (is_numbered joined) os) (opening-piece o n)
      | false ↦ ap (λ b. is_numbered joined o && b) (read_numbers joined os x n)
    ]

pub more_numbers : (joined : ℕ) (os : List Inbox) (new : Inbox) → new.opening ≡ joined + 1
    → list_all (is_numbered joined) os ≡ true → list_all (is_numbered (joined + 1)) (os ++ new ∷ []) ≡ true
more_numbers joined [] new e a = let last : is_numbered (joined + 1) new ≡ true = grind (arith, nat_tests) in
    rw last refl
more_numbers joined (o ∷ os) new e a =
    (elim (is_numbered joined o) as (λ b. is_numbered joined o ≡ b → (b && list_all (is_numbered joined) os) ≡ true →
    (is_numbered (joined + 1) o && list_all (is_numbered (joined + 1)) (os ++ new ∷ [])) ≡ true) [
      | true ↦ λ n k. let later : is_numbered (joined + 1) o ≡ true = grind (arith, nat_tests) in
          rw later (more_numbers joined os new e k)
      | false ↦ λ n k. cc
    ]) refl a

pub left_numbers : (joined : ℕ) (t : Inbox → Bool) (os : List Inbox)
    → list_all (is_numbered joined) os ≡ true → list_all (is_numbered joined) (filter t os) ≡ true
left_numbers joined t [] a = refl
left_numbers joined t (o ∷ os) a =
    (elim (is_numbered joined o) as (λ b. is_numbered joined o ≡ b → (b && list_all (is_numbered joined) os) ≡ true →
    list_all (is_numbered joined) (filter t (o ∷ os)) ≡ true) [
      | true ↦ λ e k.
          elim (t o) as (λ c. list_all (is_numbered joined) (cond c (o ∷ filter t os) (filter t os)) ≡ true) [
            | true ↦ rw e (left_numbers joined t os k)
            | false ↦ left_numbers joined t os k
          ]
      | false ↦ λ e k. cc
    ]) refl a

at_numbers : (s : PortsState) (port : ℕ) (message : List ℕ) → AreNumbered s → AreNumbered (delivered_at s port message)
at_numbers s port message h =
    elim (is_open s port) as (λ b. AreNumbered (cond b copied kept)) [
      | true ↦ delivered_numbers s.joined port message s.openings ∙ h
      | false ↦ h
    ]
  where
    copied : PortsState
    copied = record s { openings = map (delivered port message) s.openings }

    kept : PortsState
    kept = record s { ports = with_kept s.ports port (kept_of s.ports port ++ message ∷ []) }

pub on_numbers : (number : Option ℕ) (s : PortsState) (message : List ℕ) → AreNumbered s
    → AreNumbered (delivered_on number s message)
on_numbers None s message h = h
on_numbers (Some port) s message h = at_numbers s port message h

pub answer_numbers : (s : PortsState) (r : Asker) → AreNumbered s → AreNumbered (after_answer s r)
answer_numbers s r h = read_numbers s.joined s.openings r.opening r.count ∙ h

pub ask_numbers : (s : PortsState) (r : Asker) → AreNumbered s → AreNumbered (after_ask s r)
ask_numbers s r h =
    elim (read_waits s r) as (λ b. AreNumbered (cond b waiting (after_answer s r))) [
      | true ↦ h
      | false ↦ answer_numbers s r h
    ]
  where
    waiting : PortsState
    waiting = record s { reads = s.reads ++ r ∷ [] }

pub next_numbers : (o : Option Asker) (s : PortsState) → AreNumbered s → AreNumbered (after_next o s)
next_numbers None s h = h
next_numbers (Some r) s h = answer_numbers (without_next s) r h

pub call_numbers : (s : PortsState) (c : Call) → IsNumbered s c → AreNumbered s → AreNumbered (after_call s c)
call_numbers s (Add name) a h = h
call_numbers s (Join port opening) a h = more_numbers s.joined s.openings
    (inbox_with opening port (kept_of s.ports port)) a h
call_numbers s (Deliver name message keep) a h = on_numbers (number_of s.ports name) s message h
call_numbers s (Ask r) a h = ask_numbers s r h
call_numbers s Serve a h = next_numbers (next_of s) s h
call_numbers s (Cancel conn tag) a h = h
call_numbers s (Leave opening) a h = left_numbers s.joined (λ o. not (is_of opening o)) s.openings h

-- one that is there has such a number
pub numbered : (joined : ℕ) (os : List Inbox) (x : ℕ) → list_all (is_numbered joined) os ≡ true → list_any (is_of x)
    os ≡ true → x ≤ joined
numbered joined [] x a t = absurd cc
numbered joined (o ∷ os) x a t =
    (elim (is_numbered joined o) as (λ b. is_numbered joined o ≡ b → (b && list_all (is_numbered joined) os) ≡ true →
    x ≤ joined) [
      | true ↦ λ e k.
          (elim (is_of x o) as (λ b. is_of x o ≡ b → (b || list_any (is_of x) os) ≡ true → x ≤ joined) [
            | true ↦ λ f j. grind (arith, nat_tests)
            | false ↦ λ f j. numbered joined os x k j
          ]) refl t
      | false ↦ λ e k. absurd cc
    ]) refl a

pub numbering : OpeningsAreNumbered
numbering s h = record {
  stays = λ c a. call_numbers s c a h;
  within = λ opening t. numbered s.joined s.openings opening
      h t;
}
