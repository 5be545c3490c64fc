use Rattle.std.proofs.Common.{◌≡◌, ◌≤◌, ◌+◌, length}
use Rattle.core_windows.specs.Trail.{all_unmade}
use Rattle.core_windows.proofs.looks.all_unmade.Given as goal

abbrev pub invariant-loop-rest : goal.invariant-loop-rest
invariant-loop-rest l = record {
  count : l.count + all_unmade l.rest ≡ all_unmade l.trail;
  bound : l.count + length l.rest ≤ length l.trail;
}

abbrev pub decreases-loop-rest : goal.decreases-loop-rest
decreases-loop-rest l = length l.rest
