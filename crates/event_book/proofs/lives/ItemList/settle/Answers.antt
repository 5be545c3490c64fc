use Rattle.std.proofs.Common.{arith}
use Rattle.event_book.proofs.ShownLemmas.{settled_as, none_settled, split-settle}
use Rattle.event_book.proofs.lives.ItemList.settle.Goals as goal

pub invariant_of-self : goal.invariant_of-self
invariant_of-self c = rw c.set_life.ensures (split-settle c.args.life _ _ _ _ c.self.invariant (omega arith) c.requires)

pub returns-then-self-len : goal.returns-then-self-len
returns-then-self-len c =
    rw (← c.self.view_is, c.set_life.ensures)
    (settled_as c.args.life _ _ _ _ c.self.invariant.ones (omega arith) c.self.invariant.earlier)

pub returns-else-self-len : goal.returns-else-self-len
returns-else-self-len c =
    rw (← c.self.view_is) (none_settled c.args.life _ _ _ _ c.self.invariant.ones (omega arith))
