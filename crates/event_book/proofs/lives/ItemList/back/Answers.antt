use Rattle.event_book.proofs.ShownLemmas.{back_now, split-back}
use Rattle.event_book.proofs.lives.ItemList.back.Goals as goal

pub invariant_of-self : goal.invariant_of-self
invariant_of-self c = rw c.truncate.ensures.items (split-back _ _ _ _ c.self.invariant)

pub returns : goal.returns
returns c = rw (← c.self.view_is, c.truncate.ensures.items) (back_now _ _ _)
