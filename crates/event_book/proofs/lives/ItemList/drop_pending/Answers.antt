use Rattle.std.proofs.Common.{arith}
use Rattle.event_book.proofs.ShownLemmas.{dropped_now, split-drop}
use Rattle.event_book.proofs.lives.ItemList.drop_pending.Goals as goal

pub invariant_of-self : goal.invariant_of-self
invariant_of-self c =
    split-drop c.args.at _ _ _ _ c.self.inside.all.items c.drop_after.new.all.items c.self.invariant
    c.drop_after.ensures (omega arith)

pub returns : goal.returns
returns c =
    rw (← c.self.view_is)
    (dropped_now c.args.at _ _ _ c.self.inside.all.items c.drop_after.new.all.items c.self.invariant.ones
    c.drop_after.ensures (omega arith) (omega arith))
