use Rattle.wait_queue.proofs.OpeningLemmas.{changed, unchanged}
use Rattle.wait_queue.proofs.carries.Carries.refill.Goals as goal

pub returns-in_default : goal.returns-in_default
returns-in_default c = rw (← c.self.view_is) (unchanged _ _ _ _ (cc))

pub returns : goal.returns
returns c = rw (← c.self.view_is) (changed _ _ _ _ c.index_mut-opening.result.now _ _ (cc) (cc) (cc))
