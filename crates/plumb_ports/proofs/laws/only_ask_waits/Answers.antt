use Rattle.plumb_ports.proofs.WaitingLemmas.{only_ask_adds, served_waited}
use Rattle.plumb_ports.proofs.laws.only_ask_waits.Goals as goal

pub returns-clause-adds : goal.returns-clause-adds
returns-clause-adds c = only_ask_adds

pub returns-clause-served : goal.returns-clause-served
returns-clause-served c = served_waited
