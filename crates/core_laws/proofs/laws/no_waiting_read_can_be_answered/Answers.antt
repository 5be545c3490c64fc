use Rattle.core_laws.proofs.Flushes.{none_can}
use Rattle.core_laws.proofs.laws.no_waiting_read_can_be_answered.Goals as goal

pub returns : goal.returns
returns c = none_can
