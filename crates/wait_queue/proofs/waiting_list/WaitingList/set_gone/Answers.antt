use Rattle.std.proofs.Common.{arith, ap, length, ◌<◌}
use Rattle.std.proofs.lemmas.List.{length-map}
use Rattle.wait_queue.specs.Held.{waiting_at}
use Rattle.wait_queue.specs.declared.waiting_list.Place.{Place}
use Rattle.wait_queue.proofs.HeldLemmas.{AreHeld-set, view-set}
use Rattle.wait_queue.proofs.waiting_list.WaitingList.set_gone.Goals as goal

pub invariant_of-self : goal.invariant_of-self
invariant_of-self c =
    AreHeld-set c.self.inside.held c.self.inside.order.items c.args.i c.index_mut-place.result.now _
    (ap (λ (p : Place). p.key) c.index_mut-place.ensures.value) c.self.invariant

pub returns : goal.returns
returns c =
    let within : c.args.i < length c.self.inside.order.items =
    omega (arith, ap length c.self.view_is, length-map c.self.inside.order.items (waiting_at c.self.inside.held))
    in
    rw (← c.self.view_is)
    (view-set c.self.inside.held c.self.inside.order.items c.args.i c.index_mut-place.result.now _ _
    (ap (λ (p : Place). p.key) c.index_mut-place.ensures.value) within)
