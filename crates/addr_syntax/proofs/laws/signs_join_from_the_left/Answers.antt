use Rattle.addr_syntax.proofs.Rules.{signs_left}
use Rattle.addr_syntax.proofs.laws.signs_join_from_the_left.Goals as goal

pub returns : goal.returns
returns c = signs_left
