use Rattle.event_book.proofs.FidLemmas.{in_order}
use Rattle.event_book.proofs.book.Book.window_order.Goals as goal

pub returns : goal.returns
returns c = rw (← c.self.view_is) (in_order c.self.inside.tables.present c.self.invariant.0)
