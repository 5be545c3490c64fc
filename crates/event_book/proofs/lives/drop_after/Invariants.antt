use Rattle.std.proofs.Common.{◌≡◌, length}
use Rattle.event_book.specs.Shown.{dropped_after}
use Rattle.event_book.proofs.lives.drop_after.Given as goal

abbrev pub invariant-loop-i : goal.invariant-loop-i
invariant-loop-i l = record {
  same : dropped_after l.at l.i l.all.items ≡ dropped_after l.at l.from l.initial.all.items;
  len : length l.all.items ≡ length l.initial.all.items;
}
