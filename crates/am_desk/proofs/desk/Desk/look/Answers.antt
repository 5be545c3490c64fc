use Rattle.turn_lock.specs.Words.{view_of}
use Rattle.am_desk.specs.Journals.{entries_of}
use Rattle.am_desk.proofs.Turns.{looked}
use Rattle.am_desk.proofs.desk.Desk.look.Goals as goal

pub returns-clause-seen : goal.returns-clause-seen
returns-clause-seen g c =
    looked (view_of c.args.seat.now.seat) (view_of c.enter-held.new.place) (view_of c.end.new.place)
    (entries_of c.enter-held.result.value) c.enter-held.ensures.view c.enter-held.ensures.seen c.end.ensures.known
