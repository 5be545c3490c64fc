use Rattle.std.proofs.Common.{arith}
use Rattle.wait_queue.proofs.ReadLemmas.{all_here_kept, here_left}
use Rattle.wait_queue.proofs.reads.Reads.keep.Goals as goal

pub returns : goal.returns
returns c = rw (← c.self.view_is) (all_here_kept c.self.inside.all _ _ (cc) (omega arith))

pub invariant_of-self : goal.invariant_of-self
invariant_of-self c = (omega arith, λ e. here_left c.self.inside.all _ c.drop_gone.ensures)
