use Rattle.std.proofs.Common.{◌≡◌, map, take, drop, ◌++◌}
use Rattle.wait_queue.specs.Openings.{with_none}
use Rattle.wait_queue.proofs.carries.clear_each.Given as goal

abbrev pub invariant-loop-opening : goal.invariant-loop-opening
invariant-loop-opening l =
    l.all ≡ map with_none (take l.opening-index l.initial.all) ++ drop l.opening-index l.initial.all
