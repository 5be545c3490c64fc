use Rattle.std.proofs.Common.{arith, ap, sym, ◌∙◌, length, ◌<◌}
use Rattle.std.proofs.lemmas.List.{length-map}
use Rattle.std.specs.Prelude.{option_copied}
use Rattle.wait_queue.specs.Held.{waiting_at}
use Rattle.wait_queue.proofs.HeldLemmas.{not_vacant}
use Rattle.wait_queue.proofs.waiting_list.WaitingList.get.Goals as goal

pub unreachable-requires : goal.unreachable-requires
unreachable-requires c =
    let within : c.args.i < length c.self.inside.order.items =
    omega (arith, ap length c.self.view_is, length-map c.self.inside.order.items (waiting_at c.self.inside.held))
    in
    not_vacant c.self.inside.held c.self.inside.order.items c.args.i c.index-place.result.now within
    c.self.invariant c.index-place.ensures
    (sym c.get.ensures ∙ ap option_copied c.in-None.is)
