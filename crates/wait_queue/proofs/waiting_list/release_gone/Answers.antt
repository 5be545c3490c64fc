use Rattle.std.proofs.Common.{arith, filter}
use Rattle.wait_queue.specs.Held.{is_kept}
use Rattle.wait_queue.proofs.HeldLemmas.{SameOn-refl, SameOn-removed, gone_apart}
use Rattle.wait_queue.proofs.waiting_list.release_gone.Goals as goal
use Rattle.wait_queue.proofs.waiting_list.release_gone.Goals.{then-place, else-place}

pub loop-place-init : goal.loop-place-init
loop-place-init c = SameOn-refl c.args.held.now (filter is_kept c.args.order.now)

pub loop-place-preserved : goal.loop-place-preserved
loop-place-preserved c =
    elim c.if-place.branch [
      | then-place w ↦
          rw w.held-is
          (SameOn-removed c.loop-place.held w.try_remove.new.self c.args.held.now _ _ _ w.try_remove.ensures.updates
          (gone_apart c.args.held.now c.args.order.now c.loop-place.place-index _ (omega arith) c.requires
          w.if-place.true)
          c.loop-place.invariant)
      | else-place w ↦ rw w.held-is c.loop-place.invariant
    ]
