use Rattle.std.proofs.Common.{arith, refl}
use Rattle.wait_queue.specs.Waiting.{here_again}
use Rattle.wait_queue.specs.Held.{no_waiting}
use Rattle.wait_queue.proofs.OpeningLemmas.{each_changed}
use Rattle.wait_queue.proofs.reads.set_all_here.Goals as goal

pub loop-i-preserved : goal.loop-i-preserved
loop-i-preserved c =
    rw c.set_gone.ensures (each_changed here_again c.args.all.now c.loop-i.all c.loop-i.i no_waiting _
    c.loop-i.invariant (omega arith) refl)
