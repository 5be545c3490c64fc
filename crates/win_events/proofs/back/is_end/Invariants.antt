use Rattle.std.proofs.Common.{◌≡◌, length}
use Rattle.win_events.specs.Back.{is_end}
use Rattle.win_events.proofs.back.is_end.Given as goal

abbrev pub invariant-loop-rest : goal.invariant-loop-rest
invariant-loop-rest l = is_end l.rest ≡ is_end l.bytes

abbrev pub decreases-loop-rest : goal.decreases-loop-rest
decreases-loop-rest l = length l.rest
