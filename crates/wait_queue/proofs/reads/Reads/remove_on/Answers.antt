use Rattle.std.proofs.Common.{arith}
use Rattle.wait_queue.specs.Reads.{is_on}
use Rattle.wait_queue.proofs.ReadLemmas.{all_stay, here_left}
use Rattle.wait_queue.proofs.reads.Reads.remove_on.Goals as goal

pub returns : goal.returns
returns c =
    rw (← c.self.view_is) (all_stay (is_on c.args.opening) c.self.inside.all c.mark_reads_on.new.all _ _ (cc) (cc)
    (omega arith))

pub invariant_of-self : goal.invariant_of-self
invariant_of-self c = (omega arith, λ e. here_left c.mark_reads_on.new.all _ c.retain_here.ensures)
