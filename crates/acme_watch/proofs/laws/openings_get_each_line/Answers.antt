use Rattle.acme_watch.proofs.CallLaws.{gets_calls}
use Rattle.acme_watch.proofs.laws.openings_get_each_line.Goals as goal

pub returns : goal.returns
returns c = gets_calls
