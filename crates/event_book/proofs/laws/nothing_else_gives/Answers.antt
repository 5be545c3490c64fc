use Rattle.event_book.proofs.FidLemmas.{nothing_else}
use Rattle.event_book.proofs.laws.nothing_else_gives.Goals as goal

pub returns : goal.returns
returns c = nothing_else
