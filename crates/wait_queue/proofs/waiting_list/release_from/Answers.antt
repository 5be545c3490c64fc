use Rattle.std.proofs.Common.{arith, take}
use Rattle.wait_queue.proofs.HeldLemmas.{SameOn-refl, SameOn-removed, later_apart}
use Rattle.wait_queue.proofs.waiting_list.release_from.Goals as goal

pub loop-i-init : goal.loop-i-init
loop-i-init c = SameOn-refl c.args.held.now (take c.args.n c.args.order.now)

pub loop-i-preserved : goal.loop-i-preserved
loop-i-preserved c =
    SameOn-removed c.loop-i.held c.try_remove.new.self c.args.held.now _ _ _ c.try_remove.ensures.updates
    (later_apart c.args.held.now c.args.order.now c.args.n c.loop-i.i _ (omega arith) (omega arith) c.requires)
    c.loop-i.invariant
