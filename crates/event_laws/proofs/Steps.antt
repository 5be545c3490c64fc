-- Each entry does what it does to event files by calls of the book.
use Rattle.std.proofs.Common.{◌≡◌, ℕ, ◌+◌, List, [], length, map, sym, subst, ap, ◌∙◌, arith}
use Rattle.am_journal.specs.declared.event.Event.{Event}
use Rattle.event_book.specs.BookState.{BookState}
use Rattle.book_calls.specs.Calls.{Answers, all_ended, CanEndAll, IsByCalls}
use Rattle.book_calls.specs.Laws.{IsBefore, IsLawfulEntry}
use Rattle.book_calls.proofs.Entries.{lawful}
use Rattle.book_calls.proofs.Trails.{IsEnded}
use Rattle.core_events.proofs.Idles.{AreIdle}
use Rattle.core_events.specs.declared.response.Response.{Response}
use Rattle.core_intents.specs.Doings.{doing_of}
use Rattle.core_parts.specs.Doing.{Doing}
use Rattle.core_parts.specs.Kinds.{kind_of}
use Rattle.acme_core.specs.Run.{step, run}
use Rattle.core_steps.specs.Stages.{grown_book, book_after as book_of, said}
use Rattle.core_parts.specs.States.{Present, State, present}
use Rattle.acme_core.proofs.Goes.{run-push, entries_counted}
use Rattle.acme_core.proofs.Idling.{run_idle}
use Rattle.core_laws.specs.Saying.{said_after}
use Rattle.event_laws.specs.Rreads.{rreads_of}
use Rattle.event_laws.specs.Laws.{book_after, rread_to, IsByBook}
use Rattle.event_laws.proofs.Walks.{Walks, grown}
use Rattle.event_laws.proofs.Ends.{all_end}
use Rattle.am_journal.specs.declared.event.Journal.{Journal}
use Rattle.am_journal.specs.Journal.{longer}

record IsStep (at : ℕ) (old new : BookState) (heard : List Response) : Type 0 where
  answers : Answers
  calls : IsByCalls at old new answers
  tells : map (rread_to at) answers ≡ rreads_of at heard

step_of : (s : State) (e : Event) → IsStep (s.entries + 1) s.scene.book (step s e).scene.book
    (said (present s) (kind_of e) (doing_of (present s) e))
unfolding step
step_of s e =
    let p : Present = present s in
    let d : Doing = doing_of p e in
    let at : ℕ = s.entries + 1 in
    let w : Walks at s.scene.book (said p (kind_of e) d) (grown_book p (kind_of e) d) = grown p (kind_of e) d in
    let x : IsEnded at (grown_book p (kind_of e) d) (book_of p (kind_of e) d) = all_end p (kind_of e) d in
    record {
      answers = w.answers;
      calls = record {
        makes = w.makes.makes;
        ends = x.ends;
        can_make = w.makes.can;
        can_end = subst (λ (t : BookState). CanEndAll at t x.ends) (sym w.makes.book) x.can;
        gives = w.makes.gives;
        book = ap (λ (t : BookState). all_ended at t x.ends) w.makes.book ∙ x.book;
      };
      tells = w.tells;
    }

pub entry : (before : Journal) (e : Event) → IsByBook before e
entry before e =
    let s : State = run before in
    let heard : List Response = said_after before e in
    let one : IsStep (s.entries + 1) s.scene.book (step s e).scene.book heard = step_of s e in
    let ran : IsStep (s.entries + 1) (book_after before) (book_after (longer before e)) heard =
    subst (λ (t : State). IsStep (s.entries + 1) s.scene.book t.scene.book heard) (sym (run-push before e)) one
    in
    let counted : IsStep (length before.events + 1) (book_after before) (book_after (longer before e)) heard =
    subst (λ (n : ℕ). IsStep (n + 1) (book_after before) (book_after (longer before e)) heard) (entries_counted before)
    ran
    in
    record { answers = counted.answers; calls = counted.calls; tells = counted.tells }

-- so the laws of calls hold of it
pub entry_laws : (before : Journal) (e : Event) → IsLawfulEntry (length before.events + 1) (book_after before)
    (book_after (longer before e)) (entry before e).answers
entry_laws before e =
    let idle : AreIdle [] (run before).entries (book_after before) = run_idle before in
    let first : IsBefore (length before.events + 1) (book_after before) =
    record { lawful = idle.lawful; earlier = omega (arith, idle.latest, entries_counted before) } in
    lawful (length before.events + 1) (book_after before) (book_after (longer before e)) (entry before e).answers first
    (entry before e).calls
