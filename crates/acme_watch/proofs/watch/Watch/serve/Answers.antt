use Rattle.std.proofs.Common.{◌≡◌, true, false, subst, sym}
use Rattle.am_text.specs.Twice.{Twice}
use Rattle.acme_watch.specs.Watching.{WatchState, has_opening, read_waits}
use Rattle.acme_watch.proofs.ServeLemmas.{next-there, next-ready}
use Rattle.acme_watch.proofs.watch.Watch.serve.Goals as goal

pub answer_read-requires-clause-open : goal.answer_read-requires-clause-open
answer_read-requires-clause-open c =
    subst (λ (t : Twice WatchState). has_opening t.present c.in-Some.read.file c.in-Some.read.asker.opening
    ≡ true) (sym c.take_next.ensures)
    (next-there c.args.self.now.present c.in-Some.read (sym c.in-Some.ensures))

pub answer_read-requires-clause-ready : goal.answer_read-requires-clause-ready
answer_read-requires-clause-ready c =
    subst (λ (t : Twice WatchState). read_waits t.present.log t.present.jobs c.in-Some.read
    ≡ false) (sym c.take_next.ensures)
    (next-ready c.args.self.now.present c.in-Some.read (sym c.in-Some.ensures))
