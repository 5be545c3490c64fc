use Rattle.std.proofs.Common.{arith}
use Rattle.wait_queue.specs.Reads.{is_read}
use Rattle.wait_queue.proofs.ReadLemmas.{all_stay, here_left, list_any-here}
use Rattle.wait_queue.proofs.reads.Reads.cancel.Goals as goal

pub returns-clause-waited : goal.returns-clause-waited
returns-clause-waited c =
    rw (← c.self.view_is)
    (let here = list_any-here (is_read c.args.conn c.args.tag) c.self.inside.all in cc)

pub returns-clause-new : goal.returns-clause-new
returns-clause-new c =
    rw (← c.self.view_is) (all_stay (is_read c.args.conn c.args.tag) c.self.inside.all c.mark_read.new.all _ _ (cc) (cc)
    (omega arith))

pub invariant_of-self : goal.invariant_of-self
invariant_of-self c = (omega arith, λ e. here_left c.mark_read.new.all _ c.retain_here.ensures)
