use Rattle.std.proofs.Common.{arith}
use Rattle.event_book.proofs.ShownLemmas.{all_now, split-keep}
use Rattle.event_book.proofs.lives.ItemList.keep.Goals as goal

pub invariant_of-self : goal.invariant_of-self
invariant_of-self c = split-keep _ _ _ _ c.self.inside.all.items c.self.invariant (omega arith)

pub returns : goal.returns
returns c = rw (← c.self.view_is) (all_now _ _ c.self.inside.all.items (omega arith))
