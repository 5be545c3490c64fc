use Rattle.event_book.proofs.FidLemmas.{gets}
use Rattle.event_book.proofs.book.Book.what_a_fid_gets.Goals as goal

pub returns : goal.returns
returns c = rw (← c.self.view_is) (gets c.self.inside.tables.present c.self.invariant.0)
