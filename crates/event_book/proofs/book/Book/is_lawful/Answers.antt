use Rattle.event_book.proofs.book.Book.is_lawful.Goals as goal

pub returns-clause-present : goal.returns-clause-present
returns-clause-present c = rw (← c.self.view_is) c.self.invariant.0

pub returns-clause-kept : goal.returns-clause-kept
returns-clause-kept c = rw (← c.self.view_is) c.self.invariant.1
