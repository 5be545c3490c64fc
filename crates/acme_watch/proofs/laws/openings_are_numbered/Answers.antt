use Rattle.acme_watch.proofs.CallLaws.{numbered}
use Rattle.acme_watch.proofs.laws.openings_are_numbered.Goals as goal

pub returns : goal.returns
returns c = numbered
