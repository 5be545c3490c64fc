use Rattle.std.proofs.Common.{◌≡◌, drop, ◌&&◌}
use Rattle.std.specs.List.{list_any}
use Rattle.wait_queue.specs.Waiting.{is_here}
use Rattle.wait_queue.specs.Reads.{is_read}
use Rattle.wait_queue.proofs.reads.has_read.Given as goal

abbrev pub invariant-loop-i : goal.invariant-loop-i
invariant-loop-i l =
    list_any (λ w. is_here w && is_read l.conn l.tag w.asker) (drop l.i l.all)
    ≡ list_any (λ w. is_here w && is_read l.conn l.tag w.asker) l.all
