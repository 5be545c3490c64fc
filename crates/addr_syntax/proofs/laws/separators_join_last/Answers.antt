use Rattle.addr_syntax.proofs.Rules.{separators_last}
use Rattle.addr_syntax.proofs.laws.separators_join_last.Goals as goal

pub returns : goal.returns
returns c = separators_last
