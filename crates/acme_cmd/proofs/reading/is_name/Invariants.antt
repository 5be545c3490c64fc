use Rattle.std.proofs.Common.{◌≡◌, length}
use Rattle.acme_cmd.specs.Commands.{is_name}
use Rattle.acme_cmd.proofs.reading.is_name.Given as goal

abbrev pub invariant-loop-left : goal.invariant-loop-left
invariant-loop-left l = is_name l.rest l.left ≡ is_name l.text l.name

abbrev pub decreases-loop-left : goal.decreases-loop-left
decreases-loop-left l = length l.left
