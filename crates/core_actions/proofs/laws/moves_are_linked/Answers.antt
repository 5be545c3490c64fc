use Rattle.core_actions.proofs.Linked.{are_linked}
use Rattle.core_actions.proofs.laws.moves_are_linked.Goals as goal

pub returns : goal.returns
returns c = are_linked
