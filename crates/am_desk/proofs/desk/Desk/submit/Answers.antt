use Rattle.std.proofs.Common.{◌≡◌, ◌+◌, ◌∷◌, [], ◌++◌, List, None, length, sym, ap, ◌∙◌, subst}
use Rattle.am_journal.specs.declared.event.Event.{Event}
use Rattle.am_journal.specs.declared.event.Journal.{Journal}
use Rattle.am_journal.specs.Journal.{journal_in}
use Rattle.turn_lock.specs.declared.view.View.{View}
use Rattle.turn_lock.specs.Words.{view_of}
use Rattle.acme_core.specs.Run.{enabled}
use Rattle.am_desk.specs.Desks.{seat_format}
use Rattle.am_desk.specs.Journals.{entries_of, journal_of}
use Rattle.am_desk.proofs.Turns.{looked, entered_event}
use Rattle.am_desk.proofs.desk.Desk.submit.Goals as goal

pub note-requires-clause-entry : goal.note-requires-clause-entry
note-requires-clause-entry g c =
    let was : entries_of c.value.result.now ≡ entries_of c.enter-held.result.value = ap entries_of
    c.value.ensures.value in
    let seen : entries_of c.value.result.now ≡ (view_of c.enter-held.new.place).seen =
    was ∙ sym (ap (λ (v : View Event). v.seen) c.enter-held.ensures.view) in (
      c.args.event,
      ap (λ (j : Journal). j.events) c.in-Ok.ensures.done ∙ ap (λ (l : List Event). l ++ c.args.event ∷ []) seen,
    )

pub returns-in-Ok-clause-ok : goal.returns-in-Ok-clause-ok
returns-in-Ok-clause-ok g c =
    let now : List Event = entries_of c.enter-held.result.value in
    let was : journal_of c.value.result.now ≡ journal_in (seat_format c.args.seat.now) now =
    ap journal_of c.value.ensures.value ∙ c.enter-held.ensures.journal in
    let before : entries_of c.value.result.now ≡ now = ap (λ (j : Journal). j.events) was in
    let seen : entries_of c.value.result.now ≡ (view_of c.enter-held.new.place).seen =
    before ∙ sym (ap (λ (v : View Event). v.seen) c.enter-held.ensures.view) in (
      now,
      c.enter-held.ensures.seen,
      subst (λ (j : Journal). enabled j c.args.event ≡ None) was c.in-Ok.ensures.ok.0,
      c.in-Ok.ensures.ok.1 ∙ ap (λ (l : List Event). length l + 1) before,
      entered_event (view_of c.args.seat.now.seat) (view_of c.enter-held.new.place) (view_of c.note.new.seat)
          (view_of c.end.new.place) now c.args.event c.enter-held.ensures.view
          (c.note.ensures.view c.args.event (ap (λ (j : Journal). j.events) c.in-Ok.ensures.done
          ∙ ap (λ (l : List Event). l ++ c.args.event ∷ []) seen)) c.end.ensures.known,
    )

pub returns-in-Err-clause-err : goal.returns-in-Err-clause-err
returns-in-Err-clause-err g c =
    looked (view_of c.args.seat.now.seat) (view_of c.enter-held.new.place) (view_of c.end-in-Err.new.place)
    (entries_of c.enter-held.result.value) c.enter-held.ensures.view c.enter-held.ensures.seen
    c.end-in-Err.ensures.known
