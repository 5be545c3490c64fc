use Rattle.event_book.proofs.FidLemmas.{found_fits, written_back_once}
use Rattle.event_book.proofs.laws.written_once.Goals as goal

pub returns-clause-found : goal.returns-clause-found
returns-clause-found c = found_fits

pub returns-clause-once : goal.returns-clause-once
returns-clause-once c = written_back_once
