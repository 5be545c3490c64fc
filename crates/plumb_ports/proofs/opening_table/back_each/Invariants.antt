use Rattle.std.proofs.Common.{◌≡◌, map, take, drop, ◌++◌}
use Rattle.plumb_ports.specs.Shown.{with_kept}
use Rattle.plumb_ports.proofs.opening_table.back_each.Given as goal

abbrev pub invariant-loop-queue : goal.invariant-loop-queue
invariant-loop-queue l = l.all ≡ map with_kept (take l.queue-index l.initial.all) ++ drop l.queue-index l.initial.all
