use Rattle.std.proofs.Common.{ap, ◌∙◌}
use Rattle.am_journal.specs.declared.event.Event.{Event}
use Rattle.turn_lock.specs.declared.view.View.{View}
use Rattle.turn_lock.specs.Views.{after_join}
use Rattle.turn_lock.specs.Words.{view_of}
use Rattle.am_desk.specs.Desks.{known_in}
use Rattle.am_desk.proofs.Turns.{took_in, took_in_idle}
use Rattle.am_desk.proofs.desk.Desk.take_in.Goals as goal

pub returns-clause-known : goal.returns-clause-known
returns-clause-known g c =
    took_in_idle (view_of c.args.seat.now.seat) (view_of c.args.other.seat) (view_of c.idle-other.result)
    (known_in (view_of c.leave.new.seat))
    (took_in (view_of c.args.seat.now.seat) (view_of c.idle-other.result) (view_of c.join.new.seat)
    (view_of c.enter-held.new.seat) (view_of c.leave.new.seat) _
    (c.join.ensures.view ∙ ap (λ (v : View Event). after_join v (view_of c.idle-other.result)) c.give_up.ensures.view)
    c.enter-held.ensures.view c.enter-held.ensures.past c.leave.ensures.view)
    c.idle-other.ensures.known
