use Rattle.std.proofs.Common.{filter}
use Rattle.wait_queue.specs.Held.{SameOn, is_kept}
use Rattle.wait_queue.proofs.waiting_list.release_gone.Given as goal

abbrev pub invariant-loop-place : goal.invariant-loop-place
invariant-loop-place l = SameOn l.held l.initial.held (filter is_kept l.order)
