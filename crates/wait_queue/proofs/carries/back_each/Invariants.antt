use Rattle.std.proofs.Common.{◌≡◌, map, take, drop, ◌++◌}
use Rattle.wait_queue.specs.Openings.{with_kept}
use Rattle.wait_queue.proofs.carries.back_each.Given as goal

abbrev pub invariant-loop-opening : goal.invariant-loop-opening
invariant-loop-opening l =
    l.all ≡ map with_kept (take l.opening-index l.initial.all) ++ drop l.opening-index l.initial.all
