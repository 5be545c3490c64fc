use Rattle.std.proofs.Common.{◌≡◌, ◌≤◌, length, drop, suc, None}
use Rattle.event_book.specs.Finding.{last_from, is_open_fit}
use Rattle.event_book.proofs.finding.last_open_fit.Given as goal

abbrev pub invariant-from_end : goal.invariant-from_end
invariant-from_end l = record {
  within : l.rest ≤ length l.all;
  none : last_from (is_open_fit l.message) (suc l.rest) (drop l.rest l.all) ≡ None;
}

abbrev pub decreases-from_end : goal.decreases-from_end
decreases-from_end l = l.rest
