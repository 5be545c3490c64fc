use Rattle.std.proofs.Common.{◌≡◌, length}
use Rattle.am_text.specs.Front.{after_front}
use Rattle.am_text.proofs.front.after_front.Given as goal

abbrev pub invariant-loop-left : goal.invariant-loop-left
invariant-loop-left l = after_front l.left l.rest ≡ after_front l.front l.bytes

abbrev pub decreases-loop-left : goal.decreases-loop-left
decreases-loop-left l = length l.left
