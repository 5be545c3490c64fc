use Rattle.acme_core.proofs.Answered.{answered}
use Rattle.acme_core.proofs.laws.messages_are_answered.Goals as goal

pub returns : goal.returns
returns c = answered c.reactions_are_answered.ensures
