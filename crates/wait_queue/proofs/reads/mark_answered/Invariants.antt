use Rattle.std.proofs.Common.{◌≡◌, map, take, drop, ◌++◌}
use Rattle.wait_queue.specs.Waiting.{mark}
use Rattle.wait_queue.proofs.reads.mark_answered.Given as goal

abbrev pub invariant-loop-i : goal.invariant-loop-i
invariant-loop-i g l = l.all ≡ map (mark (g.A.Answers.answers l.by)) (take l.i l.initial.all) ++ drop l.i l.initial.all
