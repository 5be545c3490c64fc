use Rattle.event_book.proofs.DropLemmas.{only_closes}
use Rattle.event_book.proofs.laws.dropped_at_close.Goals as goal

pub returns : goal.returns
returns c = only_closes
