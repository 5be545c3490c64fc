use Rattle.event_book.proofs.FidLemmas.{cancelled_not_next}
use Rattle.event_book.proofs.WaitingLemmas.{cancelled_gone, only_ask_adds, served_waited}
use Rattle.event_book.proofs.laws.flushed_takes_none.Goals as goal

pub returns-clause-cancelled : goal.returns-clause-cancelled
returns-clause-cancelled c = cancelled_gone

pub returns-clause-next : goal.returns-clause-next
returns-clause-next c = cancelled_not_next

pub returns-clause-adds : goal.returns-clause-adds
returns-clause-adds c = only_ask_adds

pub returns-clause-served : goal.returns-clause-served
returns-clause-served c = served_waited
