use Rattle.std.proofs.Common.{◌≡◌, false, length}
use Rattle.edit_run.specs.Replacing.{names_group}
use Rattle.edit_run.proofs.replacing.names_group.Given as goal

abbrev pub invariant-loop-rest : goal.invariant-loop-rest
invariant-loop-rest l = names_group l.behind l.rest ≡ names_group false l.with

abbrev pub decreases-loop-rest : goal.decreases-loop-rest
decreases-loop-rest l = length l.rest
