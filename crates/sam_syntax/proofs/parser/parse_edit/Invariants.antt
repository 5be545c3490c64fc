use Rattle.std.proofs.Common.{◌-◌, length}
use Rattle.sam_syntax.specs.Joined.{Reading}
use Rattle.sam_syntax.specs.Answer.{Reaches}
use Rattle.sam_syntax.specs.Read.{Follows}
use Rattle.sam_syntax.proofs.parser.parse_edit.Given as goal

abbrev pub invariant-loop-at : goal.invariant-loop-at
invariant-loop-at l = (r : Reading) × Reaches l.text l.at r × Follows l.progress r

abbrev pub decreases-loop-at : goal.decreases-loop-at
decreases-loop-at l = length l.text - l.at
