use Rattle.std.proofs.Common.{◌≡◌, ◌<◌, ℕ, false, get_or}
use Rattle.wait_queue.specs.Waiting.{is_ready}
use Rattle.wait_queue.specs.Held.{no_waiting}
use Rattle.wait_queue.proofs.reads.place_of_ready.Given as goal

abbrev pub invariant-loop-i : goal.invariant-loop-i
invariant-loop-i g l =
    (k : ℕ) → k < l.i → is_ready (g.A.Answers.answers l.by) (get_or l.all k no_waiting) ≡ false
