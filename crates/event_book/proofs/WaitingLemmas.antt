-- Which reads wait after each call.
use Rattle.std.proofs.Common.{inl, ℕ, true, false, cond, not, [], ◌∷◌, ◌++◌, Option, Some, None}
use Rattle.std.proofs.lemmas.List.Elements.{Contains-push_cases}
use Rattle.wait_queue.specs.Reads.{is_read, is_on}
use Rattle.wait_queue.specs.Laws.{AddsNone, AddsOnly}
use Rattle.wait_queue.specs.declared.types.Asker.{Asker}
use Rattle.wait_queue.proofs.WaitingLemmas.{filter-adds, without_first-adds, found-there, none_left}
use Rattle.event_book.specs.BookState.{BookState, read_waits, piece_for, after_answer, after_ask, is_ready, next_of}
use Rattle.event_book.specs.BookState.{after_next, is_on_window}
use Rattle.event_book.specs.Laws.{CancelledIsGone, OnlyAskWaits, ServedWaited}
use Rattle.event_book.proofs.FidLemmas.{served_is}

pub cancelled_gone : CancelledIsGone
cancelled_gone s conn tag = none_left s.reads conn tag

ask-adds : (s : BookState) (r : Asker) (at : ℕ) → AddsOnly r s.reads (after_ask s r at).reads
ask-adds s r at =
    elim (read_waits s r) as (λ b. AddsOnly r s.reads (cond b (record s { reads = s.reads ++ r ∷ []; latest = at })
    (after_answer s r at)).reads) [
      | true ↦ λ x c. Contains-push_cases s.reads r x c
      | false ↦ λ x c. inl c
    ]

next-adds : (next : Option Asker) (s : BookState) (at : ℕ) → AddsNone s.reads (after_next next s at).reads
next-adds None s at = λ x c. c
next-adds (Some r) s at = without_first-adds (is_ready s.files s.owners) s.reads

pub only_ask_adds : OnlyAskWaits
only_ask_adds s = record {
  ask = λ r at. ask-adds s r at;
  add = λ w x c. c;
  put = λ w item x c. c;
  serve = λ at. next-adds (next_of s) s at;
  written = λ w number at x c. c;
  cancel = λ conn tag. filter-adds (λ r. not (is_read conn tag r)) s.reads;
  leave = λ o at. filter-adds (λ r. not (is_on o r)) s.reads;
  delete = λ w at. filter-adds (λ r. not (is_on_window s.owners w r)) s.reads;
}

pub served_waited : ServedWaited
served_waited s r piece h =
    found-there (is_ready s.files s.owners) s.reads r (served_is (next_of s) (piece_for s) r piece h).0
