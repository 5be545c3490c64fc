use Rattle.std.proofs.Common.{◌≡◌, ◌++◌, length}
use Rattle.edit_run.specs.Ranges.{between}
use Rattle.edit_run.proofs.matching.between.Given as goal

abbrev pub invariant-loop-rest : goal.invariant-loop-rest
invariant-loop-rest l = l.gaps ++ between l.at l.range.q1 l.rest ≡ between l.range.q0 l.range.q1 l.spans

abbrev pub decreases-loop-rest : goal.decreases-loop-rest
decreases-loop-rest l = length l.rest
