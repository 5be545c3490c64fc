use Rattle.std.proofs.Common.{sym, ap, ◌∙◌}
use Rattle.turn_lock.specs.Words.{view_of}
use Rattle.am_desk.specs.Journals.{entries_of, number_of}
use Rattle.am_desk.proofs.Turns.{has_turn, has_noted, has_number}
use Rattle.am_desk.proofs.desk.Desk.give_up.Goals as goal

pub leave-requires-clause-turn : goal.leave-requires-clause-turn
leave-requires-clause-turn c = has_turn c.args.stay.now c.in-Some.stay (view_of c.args.place.now) c.requires.stays
    (sym c.take.ensures.value ∙ c.in-Some.is)

pub leave-requires-clause-noted : goal.leave-requires-clause-noted
leave-requires-clause-noted c =
    ap entries_of c.resume.ensures
    ∙ has_noted c.args.stay.now c.in-Some.stay (view_of c.args.place.now) c.requires.stays
    (sym c.take.ensures.value ∙ c.in-Some.is)

pub leave-requires-clause-number : goal.leave-requires-clause-number
leave-requires-clause-number c =
    ap number_of c.resume.ensures
    ∙ has_number c.args.stay.now c.in-Some.stay (view_of c.args.place.now) c.requires.stays
    (sym c.take.ensures.value ∙ c.in-Some.is)
