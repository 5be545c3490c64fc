use Rattle.std.proofs.Common.{◌-◌, length}
use Rattle.addr_syntax.specs.Joined.{Reading}
use Rattle.addr_syntax.specs.Answer.{ReachesFrom}
use Rattle.addr_syntax.specs.Read.{Follows}
use Rattle.addr_syntax.proofs.parser.addr_at.Given as goal

abbrev pub invariant-loop-at : goal.invariant-loop-at
invariant-loop-at l = (r : Reading) × ReachesFrom l.text l.from l.at r × Follows l.progress r

abbrev pub decreases-loop-at : goal.decreases-loop-at
decreases-loop-at l = length l.text - l.at
