use Rattle.wait_queue.proofs.WaitingLemmas.{cancelled_gone}
use Rattle.wait_queue.proofs.LawLemmas.{cancelled}
use Rattle.wait_queue.proofs.laws.cancelled_is_gone.Goals as goal

pub returns-clause-gone : goal.returns-clause-gone
returns-clause-gone c = cancelled_gone

pub returns-clause-next : goal.returns-clause-next
returns-clause-next c = cancelled
