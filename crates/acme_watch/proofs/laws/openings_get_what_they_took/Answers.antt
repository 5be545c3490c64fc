use Rattle.acme_watch.proofs.CallLaws.{took_calls}
use Rattle.acme_watch.proofs.laws.openings_get_what_they_took.Goals as goal

pub returns : goal.returns
returns c = took_calls
