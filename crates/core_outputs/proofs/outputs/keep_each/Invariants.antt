use Rattle.std.proofs.Common.{◌≡◌, map, take, drop, ◌++◌}
use Rattle.core_outputs.specs.Unsent.{with_present}
use Rattle.core_outputs.proofs.outputs.keep_each.Given as goal

abbrev pub invariant-loop-unsent : goal.invariant-loop-unsent
invariant-loop-unsent l =
    l.all ≡ map with_present (take l.unsent-index l.initial.all) ++ drop l.unsent-index l.initial.all
