use Rattle.std.proofs.Common.{◌≤◌, subst, sym}
use Rattle.am_text.specs.Twice.{Twice}
use Rattle.event_book.specs.BookState.{BookState}
use Rattle.event_book.proofs.LawfulLemmas.{grown, lawful-serve}
use Rattle.event_book.proofs.book.Book.serve.Goals as goal

pub invariant_of-self : goal.invariant_of-self
invariant_of-self c =
    let later = subst (λ (t : Twice BookState). t.present.latest ≤ c.args.at) (sym c.self.view_is) c.requires in
    grown c.serve.result c.self.inside.tables c.serve.new.self _ c.self.invariant
    (λ h. lawful-serve _ c.args.at later h) c.serve.ensures.ok c.serve.ensures.err

pub serve-requires : goal.serve-requires
serve-requires c = c.self.invariant.0.living
