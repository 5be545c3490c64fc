use Rattle.plumb_ports.proofs.LawLemmas.{begins, gets}
use Rattle.plumb_ports.proofs.laws.gets_each_message.Goals as goal

pub returns-clause-begins : goal.returns-clause-begins
returns-clause-begins c = begins

pub returns-clause-gets : goal.returns-clause-gets
returns-clause-gets c = gets
