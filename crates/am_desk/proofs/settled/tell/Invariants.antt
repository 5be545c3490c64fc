use Rattle.std.proofs.Common.{◌≡◌, ◌-◌, length, drop}
use Rattle.acme_core.specs.Run.{run}
use Rattle.am_counter.specs.Telling.{with_told}
use Rattle.am_desk.specs.Replies.{told_by}
use Rattle.am_desk.proofs.settled.tell.Given as goal

abbrev pub invariant-loop-conn : goal.invariant-loop-conn
invariant-loop-conn l = with_told l.told.are (drop l.k (told_by l.core.journal)) ≡ with_told l.fn.told.are
    (told_by l.fn.core.journal)

abbrev pub decreases-loop-conn : goal.decreases-loop-conn
decreases-loop-conn l = length (run l.core.journal).replies - l.k
