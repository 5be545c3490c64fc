use Rattle.std.proofs.Common.{◌≡◌, ◌∷◌, [], ◌++◌, List, None, false, true, sym, ap, ◌∙◌, subst}
use Rattle.am_journal.specs.declared.event.Event.{Event}
use Rattle.am_journal.specs.declared.event.Event.TheVariants.{Took}
use Rattle.am_journal.specs.declared.event.Journal.{Journal}
use Rattle.am_journal.specs.Journal.{journal_in}
use Rattle.am_counter.specs.declared.ask.Ask.TheVariants as ask
use Rattle.turn_lock.specs.declared.view.View.{View}
use Rattle.turn_lock.specs.Words.{view_of}
use Rattle.acme_core.specs.Asks.{answer_at}
use Rattle.acme_core.specs.Run.{enabled, output_at}
use Rattle.am_desk.specs.Desks.{seat_format}
use Rattle.am_desk.specs.Journals.{entries_of, journal_of}
use Rattle.am_desk.proofs.Turns.{looked, entered_event, seen_then}
use Rattle.am_desk.proofs.desk.Desk.take.Goals as goal

pub returns-in-Ok-Bytes-clause-bytes : goal.returns-in-Ok-Bytes-clause-bytes
returns-in-Ok-Bytes-clause-bytes g c = λ _.
    let now : List Event = entries_of c.enter-held.result.value in
    let was : journal_of c.value.result.now ≡ journal_in (seat_format c.args.seat.now) now =
    ap journal_of c.value.ensures.value ∙ c.enter-held.ensures.journal in
    let seen : entries_of c.value.result.now ≡ (view_of c.enter-held.new.place).seen =
    ap (λ (j : Journal). j.events) was ∙ sym (ap (λ (v : View Event). v.seen) c.enter-held.ensures.view) in
    let did = c.in-Ok-Bytes.ensures.bytes (cc c.in-Ok-Bytes.field-0-is) in (
      now,
      c.enter-held.ensures.seen,
      subst (λ (j : Journal). enabled j (Took c.args.conn) ≡ None) was did.1,
      did.2 ∙ ap (λ (j : Journal). output_at j c.args.conn) was,
      λ none. did.3 (sym did.2 ∙ none),
      entered_event (view_of c.args.seat.now.seat) (view_of c.enter-held.new.place) (view_of c.note.new.seat)
          (view_of c.end.new.place) now (Took c.args.conn) c.enter-held.ensures.view
          (c.note.ensures.view (Took c.args.conn) (ap (λ (j : Journal). j.events) did.0
          ∙ ap (λ (l : List Event). l ++ Took c.args.conn ∷ []) seen)) c.end.ensures.known,
    )

pub returns-in-Ok-NothingYet-clause-nothing_yet : goal.returns-in-Ok-NothingYet-clause-nothing_yet
returns-in-Ok-NothingYet-clause-nothing_yet g c = λ _.
    let now : List Event = entries_of c.enter-held.result.value in
    let was : journal_of c.value.result.now ≡ journal_in (seat_format c.args.seat.now) now =
    ap journal_of c.value.ensures.value ∙ c.enter-held.ensures.journal in
    let seen : journal_of c.value.result.now ≡ journal_in (seat_format c.args.seat.now)
    (view_of c.end-in-Ok-NothingYet.new.place).seen =
    was ∙ ap (journal_in (seat_format c.args.seat.now)) (sym (seen_then (view_of c.args.seat.now.seat)
    (view_of c.enter-held.new.place) (view_of c.end-in-Ok-NothingYet.new.place) now c.enter-held.ensures.view
    c.end-in-Ok-NothingYet.ensures.known)) in
    let did = c.in-Ok-NothingYet.ensures.nothing_yet (cc c.in-Ok-NothingYet.field-0-is) in (
      looked (view_of c.args.seat.now.seat) (view_of c.enter-held.new.place) (view_of c.end-in-Ok-NothingYet.new.place)
          now c.enter-held.ensures.view c.enter-held.ensures.seen c.end-in-Ok-NothingYet.ensures.known,
      did.1,
      subst (λ (j : Journal). answer_at j (ask.Ended c.args.conn) ≡ false) seen did.2,
      subst (λ (j : Journal). output_at j c.args.conn ≡ []) seen did.3,
    )

pub returns-in-Ok-Ended-clause-ended : goal.returns-in-Ok-Ended-clause-ended
returns-in-Ok-Ended-clause-ended g c = λ _.
    let now : List Event = entries_of c.enter-held.result.value in
    let was : journal_of c.value.result.now ≡ journal_in (seat_format c.args.seat.now) now =
    ap journal_of c.value.ensures.value ∙ c.enter-held.ensures.journal in
    let seen : journal_of c.value.result.now ≡ journal_in (seat_format c.args.seat.now)
    (view_of c.end-in-Ok-Ended.new.place).seen =
    was ∙ ap (journal_in (seat_format c.args.seat.now)) (sym (seen_then (view_of c.args.seat.now.seat)
    (view_of c.enter-held.new.place) (view_of c.end-in-Ok-Ended.new.place) now c.enter-held.ensures.view
    c.end-in-Ok-Ended.ensures.known)) in
    let did = c.in-Ok-Ended.ensures.ended (cc c.in-Ok-Ended.field-0-is) in (
      looked (view_of c.args.seat.now.seat) (view_of c.enter-held.new.place) (view_of c.end-in-Ok-Ended.new.place) now
          c.enter-held.ensures.view c.enter-held.ensures.seen c.end-in-Ok-Ended.ensures.known,
      did.1,
      subst (λ (j : Journal). answer_at j (ask.Ended c.args.conn) ≡ true) seen did.2,
      subst (λ (j : Journal). output_at j c.args.conn ≡ []) seen did.3,
    )

pub returns-in-Err-clause-err : goal.returns-in-Err-clause-err
returns-in-Err-clause-err g c = (
  looked (view_of c.args.seat.now.seat) (view_of c.enter-held.new.place) (view_of c.end-in-Err.new.place)
      (entries_of c.enter-held.result.value) c.enter-held.ensures.view c.enter-held.ensures.seen
      c.end-in-Err.ensures.known,
  c.in-Err.ensures.err.1,
)
