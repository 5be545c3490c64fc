use Rattle.event_book.proofs.FidLemmas.{begins}
use Rattle.event_book.proofs.laws.begins_with_nothing.Goals as goal

pub returns : goal.returns
returns c = begins
