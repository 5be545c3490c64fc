use Rattle.std.proofs.Common.{◌≡◌, map, take, drop, ◌++◌}
use Rattle.wait_queue.specs.Waiting.{here_again}
use Rattle.wait_queue.proofs.reads.set_all_here.Given as goal

abbrev pub invariant-loop-i : goal.invariant-loop-i
invariant-loop-i l = l.all ≡ map here_again (take l.i l.initial.all) ++ drop l.i l.initial.all
