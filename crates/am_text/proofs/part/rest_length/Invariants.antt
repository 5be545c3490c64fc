use Rattle.std.proofs.Common.{◌≡◌, length}
use Rattle.am_text.specs.Pieces.{rest_of}
use Rattle.am_text.proofs.part.rest_length.Given as goal

abbrev pub invariant-loop-rest : goal.invariant-loop-rest
invariant-loop-rest l = rest_of l.rest ≡ rest_of l.bytes

abbrev pub decreases-loop-rest : goal.decreases-loop-rest
decreases-loop-rest l = length l.rest
