use Rattle.std.proofs.Common.{◌≡◌, ◌++◌, length}
use Rattle.core_closing.proofs.view.jobs_of.Given as goal

abbrev pub invariant-loop-rest : goal.invariant-loop-rest
invariant-loop-rest l = record { told : l.views ++ l.rest ≡ l.jobs }

abbrev pub decreases-loop-rest : goal.decreases-loop-rest
decreases-loop-rest l = length l.rest
