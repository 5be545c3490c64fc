use Rattle.event_book.proofs.LifeLemmas.{ended_stays}
use Rattle.event_book.proofs.laws.ended_stay.Goals as goal

pub returns : goal.returns
returns c = ended_stays
