use Rattle.wait_queue.proofs.LawLemmas.{loses}
use Rattle.wait_queue.proofs.laws.loses_nothing.Goals as goal

pub returns : goal.returns
returns c = loses
