use Rattle.std.proofs.Common.{◌≤◌, subst, sym}
use Rattle.am_text.specs.Twice.{Twice}
use Rattle.event_book.specs.BookState.{BookState}
use Rattle.event_book.proofs.LawfulLemmas.{steadily, lawful-delete}
use Rattle.event_book.proofs.book.Book.delete.Goals as goal

pub invariant_of-self : goal.invariant_of-self
invariant_of-self c =
    let later = subst (λ (t : Twice BookState). t.present.latest ≤ c.args.at) (sym c.self.view_is) c.requires.later in
    steadily c.delete.new.self _ c.delete.ensures (lawful-delete _ c.args.window c.args.at later c.self.invariant.0)
