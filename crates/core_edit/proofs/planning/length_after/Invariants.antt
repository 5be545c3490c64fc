use Rattle.std.proofs.Common.{◌≡◌, length}
use Rattle.core_edit.specs.Plans.{length_after}
use Rattle.core_edit.proofs.planning.length_after.Given as goal

abbrev pub invariant-loop-rest : goal.invariant-loop-rest
invariant-loop-rest l = length_after l.len l.rest ≡ length_after l.size l.edits

abbrev pub decreases-loop-rest : goal.decreases-loop-rest
decreases-loop-rest l = length l.rest
