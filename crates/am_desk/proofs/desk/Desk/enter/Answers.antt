use Rattle.std.proofs.Common.{sym, ap, subst, ◌∙◌}
use Rattle.turn_lock.specs.Views.{with_turn}
use Rattle.turn_lock.specs.Words.{view_of}
use Rattle.am_counter.specs.Played.{IsPrefix}
use Rattle.am_desk.specs.declared.settled.Settled.{Settled}
use Rattle.am_desk.specs.Journals.{entries_of, journal_of, number_of}
use Rattle.am_desk.proofs.Turns.{no_turn, kept_turn, kept_seen, has_number, number_fits}
use Rattle.am_desk.proofs.desk.Desk.enter.Goals as goal

pub enter-requires-clause-idle : goal.enter-requires-clause-idle
enter-requires-clause-idle g c = no_turn c.args.stay.now (view_of c.args.place.now) c.requires.stays
    (sym c.take.ensures.value ∙ c.in-None.is)

pub returns-in-Some-clause-view : goal.returns-in-Some-clause-view
returns-in-Some-clause-view g c =
    let v = view_of c.args.place.now in
    kept_turn c.args.stay.now c.in-Some.stay v c.requires.stays (sym c.take.ensures.value ∙ c.in-Some.is)
    ∙ ap (λ (s : Settled). with_turn v (entries_of s)) (sym c.resume.ensures)

pub returns-in-Some-clause-seen : goal.returns-in-Some-clause-seen
returns-in-Some-clause-seen g c =
    subst (λ (s : Settled). IsPrefix (view_of c.args.place.now).seen (entries_of s)) (sym c.resume.ensures)
    (kept_seen c.args.stay.now c.in-Some.stay (view_of c.args.place.now) c.requires.stays
    (sym c.take.ensures.value ∙ c.in-Some.is))

pub returns-in-Some-clause-number : goal.returns-in-Some-clause-number
returns-in-Some-clause-number g c =
    ap number_of c.resume.ensures
    ∙ has_number c.args.stay.now c.in-Some.stay (view_of c.args.place.now) c.requires.stays
    (sym c.take.ensures.value ∙ c.in-Some.is)

pub returns-in-Some-clause-journal : goal.returns-in-Some-clause-journal
returns-in-Some-clause-journal g c =
    number_fits (journal_of c.resume.result.value) (view_of c.args.place.now).number
    (ap number_of c.resume.ensures
    ∙ has_number c.args.stay.now c.in-Some.stay (view_of c.args.place.now) c.requires.stays
    (sym c.take.ensures.value ∙ c.in-Some.is))

pub returns-in-None-clause-journal : goal.returns-in-None-clause-journal
returns-in-None-clause-journal g c =
    number_fits (journal_of c.enter.result.value) (view_of c.args.place.now).number c.enter.ensures.number
