use Rattle.std.proofs.Common.{◌≡◌, ◌≤◌, ◌+◌, length}
use Rattle.core_fids.specs.Walking.{course}
use Rattle.core_fids.proofs.Courses.{then_qids}
use Rattle.core_fids.proofs.walking.course_of.Given as goal

abbrev pub invariant-loop-rest : goal.invariant-loop-rest
invariant-loop-rest l = record {
  few : length l.qids + length l.rest ≤ length l.names;
  goes : then_qids l.qids (course l.world l.ports l.node l.rest) ≡ course l.world l.ports l.initial.node l.names;
}

abbrev pub decreases-loop-rest : goal.decreases-loop-rest
decreases-loop-rest l = length l.rest
