use Rattle.std.proofs.Common.{◌≤◌, ◌-◌, length}
use Rattle.ninep_client.specs.Hearing.{Came}
use Rattle.ninep_client.proofs.hearing.fill.Given as goal

abbrev pub invariant-pieces : goal.invariant-pieces
invariant-pieces g l = record {
  later : (g.R.Source.told l.fn.source).faults ≤ (g.R.Source.told l.source).faults;
  came : Came (g.R.Source.told l.fn.source).bytes (g.R.Source.told l.source).bytes l.fn.unread l.unread;
}

abbrev pub decreases-pieces : goal.decreases-pieces
decreases-pieces g l = 65560 - length l.unread
