use Rattle.std.proofs.Common.{◌≡◌, map, take, drop, ◌++◌}
use Rattle.core_outputs.specs.Unsent.{with_kept}
use Rattle.core_outputs.proofs.outputs.back_each.Given as goal

abbrev pub invariant-loop-unsent : goal.invariant-loop-unsent
invariant-loop-unsent l =
    l.all ≡ map with_kept (take l.unsent-index l.initial.all) ++ drop l.unsent-index l.initial.all
