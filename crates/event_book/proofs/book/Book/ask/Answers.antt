use Rattle.std.proofs.Common.{◌≡◌, ◌≤◌, true, subst, sym}
use Rattle.am_text.specs.Twice.{Twice}
use Rattle.event_book.specs.BookState.{BookState, is_living}
use Rattle.event_book.proofs.LawfulLemmas.{grown, lawful-ask}
use Rattle.event_book.proofs.book.Book.ask.Goals as goal

pub invariant_of-self : goal.invariant_of-self
invariant_of-self c =
    let living = subst (λ (t : Twice BookState). is_living t.present c.args.asker.opening ≡ true) (sym c.self.view_is)
    c.requires.living in
    let later = subst (λ (t : Twice BookState). t.present.latest ≤ c.args.at) (sym c.self.view_is) c.requires.later in
    grown c.ask.result c.self.inside.tables c.ask.new.self _ c.self.invariant
    (λ h. lawful-ask _ c.args.asker c.args.at later living h) c.ask.ensures.ok c.ask.ensures.err
