use Rattle.plumb_ports.proofs.LawLemmas.{cancelled_not_next}
use Rattle.plumb_ports.proofs.WaitingLemmas.{cancelled_gone}
use Rattle.plumb_ports.proofs.laws.cancelled_is_gone.Goals as goal

pub returns-clause-gone : goal.returns-clause-gone
returns-clause-gone c = cancelled_gone

pub returns-clause-next : goal.returns-clause-next
returns-clause-next c = cancelled_not_next
