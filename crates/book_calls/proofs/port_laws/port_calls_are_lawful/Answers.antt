use Rattle.book_calls.proofs.Runs.{lawful}
use Rattle.book_calls.proofs.port_laws.port_calls_are_lawful.Goals as goal

pub returns : goal.returns
returns c = lawful
