use Rattle.std.proofs.Common.{arith}
use Rattle.wait_queue.specs.Openings.{with_none}
use Rattle.wait_queue.proofs.OpeningLemmas.{each_changed}
use Rattle.wait_queue.proofs.carries.clear_each.Goals as goal

pub loop-opening-preserved : goal.loop-opening-preserved
loop-opening-preserved c =
    each_changed with_none _ _ _ c.opening-item.result _ c.loop-opening.invariant (omega arith) (cc)
