use Rattle.std.proofs.Common.{arith}
use Rattle.core_outputs.specs.Unsent.{with_kept}
use Rattle.wait_queue.proofs.OpeningLemmas.{each_changed}
use Rattle.core_outputs.proofs.outputs.back_each.Goals as goal

pub loop-unsent-preserved : goal.loop-unsent-preserved
loop-unsent-preserved c =
    each_changed with_kept _ _ _ c.unsent-item.result _ c.loop-unsent.invariant (omega arith) (cc)
