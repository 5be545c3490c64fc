use Rattle.std.proofs.Common.{◌≡◌, length}
use Rattle.am_drill.specs.Summary.{runes_of}
use Rattle.am_drill.proofs.summary.runes_of.Given as goal

abbrev pub invariant-loop-rest : goal.invariant-loop-rest
invariant-loop-rest l = runes_of l.window l.rest ≡ runes_of l.window l.views

abbrev pub decreases-loop-rest : goal.decreases-loop-rest
decreases-loop-rest l = length l.rest
