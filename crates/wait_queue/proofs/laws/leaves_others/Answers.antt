use Rattle.wait_queue.proofs.LawLemmas.{leaves}
use Rattle.wait_queue.proofs.laws.leaves_others.Goals as goal

pub returns : goal.returns
returns c = leaves
