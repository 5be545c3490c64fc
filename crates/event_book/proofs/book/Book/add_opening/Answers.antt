use Rattle.event_book.proofs.LawfulLemmas.{grown, lawful-add}
use Rattle.event_book.proofs.book.Book.add_opening.Goals as goal

pub invariant_of-self : goal.invariant_of-self
invariant_of-self c =
    grown c.add_opening.result c.self.inside.tables c.add_opening.new.self _ c.self.invariant
    (λ h. lawful-add _ c.args.window h) c.add_opening.ensures.ok c.add_opening.ensures.err
