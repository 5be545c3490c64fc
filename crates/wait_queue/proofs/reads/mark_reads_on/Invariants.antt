use Rattle.std.proofs.Common.{◌≡◌, map, take, drop, ◌++◌}
use Rattle.wait_queue.specs.Waiting.{mark}
use Rattle.wait_queue.specs.Reads.{is_on}
use Rattle.wait_queue.proofs.reads.mark_reads_on.Given as goal

abbrev pub invariant-loop-i : goal.invariant-loop-i
invariant-loop-i l = l.all ≡ map (mark (is_on l.opening)) (take l.i l.initial.all) ++ drop l.i l.initial.all
