use Rattle.std.proofs.Common.{◌≡◌, None}
use Rattle.am_drill.specs.Brief.{IsCounted, followed}
use Rattle.am_drill.proofs.runner.Runner.play.Given as goal

abbrev pub invariant-loop-event : goal.invariant-loop-event
invariant-loop-event l = record {
  next : (goal.iterator-loop-event).can_next l.event-iterator;
  ends : (goal.iterator-loop-event).is_finite l.event-iterator;
  done : l.self.core.journal ≡ followed l.fn.self.core.journal l.yielded;
  idle : l.self.core.planned ≡ None;
  counted : IsCounted l.self.count l.self.core.journal;
}
