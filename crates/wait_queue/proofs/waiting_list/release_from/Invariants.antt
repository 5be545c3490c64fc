use Rattle.std.proofs.Common.{take}
use Rattle.wait_queue.specs.Held.{SameOn}
use Rattle.wait_queue.proofs.waiting_list.release_from.Given as goal

abbrev pub invariant-loop-i : goal.invariant-loop-i
invariant-loop-i l = SameOn l.held l.initial.held (take l.n l.order)
