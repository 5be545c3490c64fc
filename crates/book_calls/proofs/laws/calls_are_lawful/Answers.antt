use Rattle.book_calls.proofs.Entries.{lawful}
use Rattle.book_calls.proofs.laws.calls_are_lawful.Goals as goal

pub returns : goal.returns
returns c = lawful
