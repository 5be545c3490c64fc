use Rattle.std.proofs.Common.{◌≡◌, ◌≤◌, ◌-◌, take, length}
use Rattle.std.specs.Prelude.{sum_by}
use Rattle.acme_core.specs.Run.{run}
use Rattle.am_drill.specs.Summary.{bytes_in}
use Rattle.am_drill.proofs.counting.last_count.Given as goal

abbrev pub invariant-loop-reply : goal.invariant-loop-reply
invariant-loop-reply l = record {
  within : l.k ≤ length (run l.core.journal).replies;
  bytes : l.bytes ≡ sum_by bytes_in (take l.k (run l.core.journal).replies);
}

abbrev pub decreases-loop-reply : goal.decreases-loop-reply
decreases-loop-reply l = length (run l.core.journal).replies - l.k
