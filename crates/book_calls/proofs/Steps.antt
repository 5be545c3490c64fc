-- A book stays lawful over the calls of an entry, and what each of them keeps is kept over all.
use Rattle.std.proofs.Common.{ℕ, ◌≤◌, true, false, cond, List, [], ◌∷◌, ◌++◌, Option, Some, None, sym, subst}
use Rattle.std.proofs.Common.{append_assoc, append-nil, arith}
use Rattle.wait_queue.specs.declared.types.Asker.{Asker}
use Rattle.event_book.specs.BookState.{BookState, read_waits, after_answer, after_ask, next_of, after_next}
use Rattle.event_book.specs.Laws.{IsLawful}
use Rattle.event_book.proofs.LawfulLemmas.{lawful-add, lawful-put_in, lawful-ask, lawful-serve, lawful-written_back}
use Rattle.event_book.proofs.LawfulLemmas.{lawful-cancel, lawful-leave, lawful-delete}
use Rattle.book_calls.specs.Calls.{Making, Add, Put, Ask, Serve, Ending, Written, Cancel, Leave, Delete, CanMake, made}
use Rattle.book_calls.specs.Calls.{Answers, given, CanMakeAll, all_made, all_given, ended, CanEndAll, all_ended}

-- a lawful book up to an entry
pub record IsKept (at : ℕ) (s : BookState) : Type 0 where
  pub lawful : IsLawful s
  pub latest : s.latest ≤ at

latest_ask : (at : ℕ) (s : BookState) (r : Asker) → (after_ask s r at).latest ≤ at
latest_ask at s r =
    elim (read_waits s r) as (λ b. (cond b (record s { reads = s.reads ++ r ∷ []; latest = at })
    (after_answer s r at)).latest ≤ at) [
      | true ↦ omega arith
      | false ↦ omega arith
    ]

latest_next : (at : ℕ) (s : BookState) (next : Option Asker) → s.latest ≤ at → (after_next next s at).latest ≤ at
latest_next at s None h = h
latest_next at s (Some r) h = omega arith

pub kept_made : (at : ℕ) (s : BookState) (c : Making) → CanMake s c → IsKept at s → IsKept at (made at s c)
kept_made at s (Add w) can k = record { lawful = lawful-add s w k.lawful; latest = k.latest }
kept_made at s (Put w item) can k = record { lawful = lawful-put_in s w item can k.lawful; latest = k.latest }
kept_made at s (Ask r) can k = record { lawful = lawful-ask s r at k.latest can k.lawful; latest = latest_ask at s r }
kept_made at s Serve can k = record {
  lawful = lawful-serve s at k.latest k.lawful;
  latest = latest_next at s
      (next_of s) k.latest;
}

pub kept_ended : (at : ℕ) (s : BookState) (c : Ending) → IsKept at s → IsKept at (ended at s c)
kept_ended at s (Written w number) k = record {
  lawful = lawful-written_back s w number at k.latest k.lawful;
  latest =
      omega arith;
}
kept_ended at s (Cancel conn tag) k = record { lawful = lawful-cancel s conn tag k.lawful; latest = k.latest }
kept_ended at s (Leave o) k = record { lawful = lawful-leave s o at k.latest k.lawful; latest = omega arith }
kept_ended at s (Delete w) k = record { lawful = lawful-delete s w at k.latest k.lawful; latest = omega arith }

-- what each call keeps, beside what was given up to it
module _ (at : ℕ) (P : Answers → BookState → Type 0) (one : (g : Answers) (s : BookState) (c : Making) → IsKept at s
    → CanMake s c → P g s → P (g ++ given s c) (made at s c)) where
  pub over_makes : (g : Answers) (s : BookState) (cs : List Making) → IsKept at s → CanMakeAll at s cs → P g s
      → P (g ++ all_given at s cs) (all_made at s cs)
  unfolding CanMakeAll all_made all_given
  over_makes g s [] k can h = subst (λ (x : Answers). P x s) (sym (append-nil g)) h
  over_makes g s (c ∷ cs) k can h =
      subst (λ (x : Answers). P x (all_made at (made at s c) cs)) (append_assoc g (given s c)
      (all_given at (made at s c) cs))
      (over_makes (g ++ given s c) (made at s c) cs (kept_made at s c can.0 k) can.1 (one g s c k can.0 h))

module _ (at : ℕ) (P : BookState → Type 0) (one : (s : BookState) (c : Ending) → IsKept at s → P s → P (ended at s c))
  where
    pub over_ends : (s : BookState) (cs : List Ending) → IsKept at s → CanEndAll at s cs → P s → P (all_ended at s cs)
    unfolding CanEndAll all_ended
    over_ends s [] k can h = h
    over_ends s (c ∷ cs) k can h = over_ends (ended at s c) cs (kept_ended at s c k) can.1 (one s c k h)

pub kept_makes : (at : ℕ) (s : BookState) (cs : List Making) → CanMakeAll at s cs → IsKept at s
    → IsKept at (all_made at s cs)
kept_makes at s cs can k = over_makes at (λ g t. IsKept at t) (λ g t c own allowed h. kept_made at t c allowed own) [] s
    cs k can k

pub kept_ends : (at : ℕ) (s : BookState) (cs : List Ending) → CanEndAll at s cs → IsKept at s
    → IsKept at (all_ended at s cs)
kept_ends at s cs can k = over_ends at (IsKept at) (λ t c own h. kept_ended at t c own) s cs k can k
