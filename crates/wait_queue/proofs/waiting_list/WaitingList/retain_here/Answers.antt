use Rattle.std.proofs.Common.{◌∙◌, filter}
use Rattle.wait_queue.specs.Held.{is_kept, SameOn}
use Rattle.wait_queue.proofs.HeldLemmas.{AreHeld-filter, AreHeld-same, view-same, view-filter}
use Rattle.wait_queue.proofs.waiting_list.WaitingList.retain_here.Goals as goal

pub invariant_of-self : goal.invariant_of-self
invariant_of-self c =
    let same : SameOn c.release_gone.new.held c.self.inside.held (filter is_kept c.self.inside.order.items) =
    rw (← c.as_slice.ensures.value) c.release_gone.ensures in
    rw c.retain_kept.ensures
    (AreHeld-same c.release_gone.new.held c.self.inside.held _ same
    (AreHeld-filter c.self.inside.held c.self.inside.order.items c.self.invariant))

pub returns : goal.returns
returns c =
    let same : SameOn c.release_gone.new.held c.self.inside.held (filter is_kept c.self.inside.order.items) =
    rw (← c.as_slice.ensures.value) c.release_gone.ensures in
    rw (← c.self.view_is, c.retain_kept.ensures)
    (view-same c.release_gone.new.held c.self.inside.held _ same ∙ view-filter c.self.inside.held
    c.self.inside.order.items)
