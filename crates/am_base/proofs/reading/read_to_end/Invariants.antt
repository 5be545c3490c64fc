use Rattle.std.proofs.Common.{◌≡◌, ◌≤◌, ◌+◌, length}
use Rattle.am_base.specs.Outside.{then_told}
use Rattle.am_base.proofs.reading.read_to_end.Given as goal

abbrev pub invariant-pieces : goal.invariant-pieces
invariant-pieces g l = record {
  later : (g.S.Source.told l.fn.source).faults ≤ (g.S.Source.told l.source).faults;
  room : length l.bytes + l.room ≡ l.limit;
  told : (g.S.Source.told l.fn.source).bytes ≡ then_told l.bytes (g.S.Source.told l.source).bytes;
}

abbrev pub decreases-pieces : goal.decreases-pieces
decreases-pieces g l = l.room
