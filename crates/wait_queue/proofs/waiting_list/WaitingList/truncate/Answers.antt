use Rattle.std.proofs.Common.{◌∙◌, sym, take}
use Rattle.std.proofs.lemmas.List.{take-map}
use Rattle.wait_queue.specs.Held.{waiting_at, SameOn}
use Rattle.wait_queue.proofs.HeldLemmas.{AreHeld-take, AreHeld-same, view-same}
use Rattle.wait_queue.proofs.waiting_list.WaitingList.truncate.Goals as goal

pub invariant_of-self : goal.invariant_of-self
invariant_of-self c =
    let same : SameOn c.release_from.new.held c.self.inside.held (take c.args.n c.self.inside.order.items) =
    rw (← c.as_slice.ensures.value) c.release_from.ensures in
    rw c.truncate.ensures.items
    (AreHeld-same c.release_from.new.held c.self.inside.held _ same
    (AreHeld-take c.self.inside.held c.args.n c.self.inside.order.items c.self.invariant))

pub returns : goal.returns
returns c =
    let same : SameOn c.release_from.new.held c.self.inside.held (take c.args.n c.self.inside.order.items) =
    rw (← c.as_slice.ensures.value) c.release_from.ensures in
    rw (← c.self.view_is, c.truncate.ensures.items)
    (view-same c.release_from.new.held c.self.inside.held _ same ∙
    sym (take-map (waiting_at c.self.inside.held) c.args.n c.self.inside.order.items))
