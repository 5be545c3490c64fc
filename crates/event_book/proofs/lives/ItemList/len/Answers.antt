use Rattle.event_book.proofs.ShownLemmas.{length-shown}
use Rattle.event_book.proofs.lives.ItemList.len.Goals as goal

pub returns : goal.returns
returns c = rw (← c.self.view_is, length-shown c.self.inside.settled c.self.inside.all.items) (cc)
