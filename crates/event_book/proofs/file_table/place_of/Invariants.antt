use Rattle.std.proofs.Common.{◌≤◌, ◌-◌, length}
use Rattle.event_book.specs.Table.{place_of}
use Rattle.event_book.proofs.file_table.place_of.Given as goal

abbrev pub invariant-halving : goal.invariant-halving
invariant-halving l = record {
  above : l.low ≤ place_of l.window l.all;
  below : place_of l.window l.all ≤ l.high;
  within : l.high ≤ length l.all;
}

abbrev pub decreases-halving : goal.decreases-halving
decreases-halving l = l.high - l.low
