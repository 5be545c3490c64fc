use Rattle.std.proofs.Common.{sym, ap, ◌∙◌, List}
use Rattle.std.proofs.lemmas.Result.{on_ok_weaker}
use Rattle.am_text.specs.Twice.{Twice}
use Rattle.wait_queue.specs.WaitState.{WaitState, must_wait}
use Rattle.acme_watch.specs.Log.{reader_of}
use Rattle.acme_watch.proofs.EachLemmas.{either}
use Rattle.acme_watch.proofs.LogLemmas.{reader-none, reader-some, reader-there, read-none, read-some, read-kept}
use Rattle.acme_watch.proofs.log.LogReaders.give.Goals as goal

pub returns-in_default-clause-piece : goal.returns-in_default-clause-piece
returns-in_default-clause-piece c =
    rw (← c.self.view_is, reader-none c.self.inside.all.items c.args.asker.opening (cc), c.new.ensures) (either _ _)

pub returns-in_default-clause-ok : goal.returns-in_default-clause-ok
returns-in_default-clause-ok c = rw (← c.self.view_is) (read-none _ _ c.args.asker (cc))

pub ask-requires-clause-enlisted : goal.ask-requires-clause-enlisted
ask-requires-clause-enlisted c =
    reader-there c.self.inside.all.items c.args.asker.opening c.in-Some.place c.index_mut-queue.result.now (cc) (cc)

pub ask-requires-clause-ready : goal.ask-requires-clause-ready
ask-requires-clause-ready c =
    sym (ap (λ o. must_wait o c.args.asker)
    (reader-some c.self.inside.all.items c.args.asker.opening c.in-Some.place c.index_mut-queue.result.now (cc)
    (cc)))
    ∙ ap (λ (t : Twice (List WaitState)). must_wait (reader_of t.present c.args.asker.opening) c.args.asker)
    c.self.view_is
    ∙ c.requires

pub returns-clause-piece : goal.returns-clause-piece
returns-clause-piece c =
    rw (
      ← c.self.view_is,
      reader-some c.self.inside.all.items c.args.asker.opening c.in-Some.place
          c.index_mut-queue.result.now (cc) (cc),
    )
    c.ask.ensures.piece

pub returns-clause-ok : goal.returns-clause-ok
returns-clause-ok c =
    rw (← c.self.view_is)
    (on_ok_weaker c.ask.result (λ e. read-some _ _ c.args.asker _ c.index_mut-queue.result.now _ (cc) (cc) (cc))
    c.ask.ensures.ok)

pub returns-clause-kept : goal.returns-clause-kept
returns-clause-kept c =
    rw (← c.self.view_is) (read-kept _ _ _ c.index_mut-queue.result.now _ (cc) c.ask.ensures.kept)
