use Rattle.core_laws.proofs.Ends.{nothing_after, get_all}
use Rattle.core_laws.proofs.laws.ended_connections_get_nothing_more.Goals as goal

pub returns-clause-behind : goal.returns-clause-behind
returns-clause-behind c = nothing_after

pub returns-clause-all : goal.returns-clause-all
returns-clause-all c = get_all
