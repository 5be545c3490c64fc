use Rattle.acme_watch.proofs.CallLaws.{live_on}
use Rattle.acme_watch.proofs.laws.lives_go_on.Goals as goal

pub returns : goal.returns
returns c = live_on
