use Rattle.std.proofs.Common.{◌≡◌, true, subst, sym}
use Rattle.am_text.specs.Twice.{Twice}
use Rattle.event_book.specs.BookState.{BookState, is_open_window}
use Rattle.event_book.proofs.LawfulLemmas.{grown, lawful-put_in}
use Rattle.event_book.proofs.book.Book.put.Goals as goal

pub invariant_of-self : goal.invariant_of-self
invariant_of-self c =
    let opened = subst (λ (t : Twice BookState). is_open_window t.present c.args.window ≡ true) (sym c.self.view_is)
    c.requires in
    grown c.put.result c.self.inside.tables c.put.new.self _ c.self.invariant
    (λ h. lawful-put_in _ c.args.window c.args.item opened h) c.put.ensures.ok c.put.ensures.err
