use Rattle.std.proofs.Common.{◌≡◌, true, false, subst, sym}
use Rattle.am_text.specs.Twice.{Twice}
use Rattle.event_book.specs.BookState.{BookState, is_living, read_waits}
use Rattle.event_book.proofs.LawfulLemmas.{next-living, next-ready}
use Rattle.event_book.proofs.tables.Tables.serve.Goals as goal

pub answer-requires-clause-living : goal.answer-requires-clause-living
answer-requires-clause-living c =
    subst (λ (t : Twice BookState). is_living t.present c.in-Some.asker.opening ≡ true) (sym c.take_next.ensures)
    (next-living c.args.self.now.present c.in-Some.asker c.requires (sym c.in-Some.ensures))

pub answer-requires-clause-ready : goal.answer-requires-clause-ready
answer-requires-clause-ready c =
    subst (λ (t : Twice BookState). read_waits t.present c.in-Some.asker ≡ false) (sym c.take_next.ensures)
    (next-ready c.args.self.now.present c.in-Some.asker (sym c.in-Some.ensures))
