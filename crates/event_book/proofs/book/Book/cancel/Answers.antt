use Rattle.event_book.proofs.LawfulLemmas.{steadily, lawful-cancel}
use Rattle.event_book.proofs.book.Book.cancel.Goals as goal

pub invariant_of-self : goal.invariant_of-self
invariant_of-self c =
    steadily c.cancel.new.self _ c.cancel.ensures.new (lawful-cancel _ c.args.conn c.args.tag c.self.invariant.0)
