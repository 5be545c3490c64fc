use Rattle.core_laws.proofs.Backs.{once}
use Rattle.core_laws.proofs.laws.items_are_written_back_once.Goals as goal

pub returns-clause-once : goal.returns-clause-once
returns-clause-once c = once
