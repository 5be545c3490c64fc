use Rattle.event_book.proofs.LawfulLemmas.{steadily, lawful-empty}
use Rattle.event_book.proofs.book.Book.new.Goals as goal

pub invariant_of-result : goal.invariant_of-result
invariant_of-result c = steadily c.new.result _ c.new.ensures lawful-empty
