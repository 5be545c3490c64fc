use Rattle.std.proofs.Common.{arith}
use Rattle.wait_queue.proofs.ReadLemmas.{all_stay, here_left}
use Rattle.wait_queue.proofs.reads.Reads.remove_all.Goals as goal

pub returns : goal.returns
returns g c =
    rw (← c.self.view_is) (all_stay (g.A.Answers.answers c.args.by.now) c.self.inside.all c.mark_answered.new.all _ _
    (cc) (cc) (omega arith))

pub invariant_of-self : goal.invariant_of-self
invariant_of-self g c = (omega arith, λ e. here_left c.mark_answered.new.all _ c.retain_here.ensures)
