use Rattle.std.proofs.Common.{◌≡◌, ◌++◌, length, map}
use Rattle.core_across.specs.Dropping.{deletion}
use Rattle.core_across.proofs.dropping.deletions.Given as goal

-- the deeds so far, and those that are left, are all
abbrev pub invariant-loop-rest : goal.invariant-loop-rest
invariant-loop-rest l = l.deeds ++ map deletion l.rest ≡ map deletion l.windows

abbrev pub decreases-loop-rest : goal.decreases-loop-rest
decreases-loop-rest l = length l.rest
