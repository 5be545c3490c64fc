use Rattle.std.proofs.Common.{◌≤◌, subst, sym}
use Rattle.am_text.specs.Twice.{Twice}
use Rattle.event_book.specs.BookState.{BookState}
use Rattle.event_book.proofs.LawfulLemmas.{steadily, lawful-written_back}
use Rattle.event_book.proofs.book.Book.written.Goals as goal

pub invariant_of-self : goal.invariant_of-self
invariant_of-self c =
    let later = subst (λ (t : Twice BookState). t.present.latest ≤ c.args.at) (sym c.self.view_is) c.requires.later in
    steadily c.written.new.self _ c.written.ensures (lawful-written_back _ c.args.window c.args.number c.args.at later
    c.self.invariant.0)
