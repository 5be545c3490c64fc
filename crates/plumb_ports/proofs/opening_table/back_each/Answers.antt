use Rattle.std.proofs.Common.{arith}
use Rattle.plumb_ports.specs.Shown.{with_kept}
use Rattle.plumb_ports.proofs.EachLemmas.{each_changed}
use Rattle.plumb_ports.proofs.opening_table.back_each.Goals as goal

pub loop-queue-preserved : goal.loop-queue-preserved
loop-queue-preserved c = each_changed with_kept _ _ _ c.queue-item.result _ c.loop-queue.invariant (omega arith) (cc)
