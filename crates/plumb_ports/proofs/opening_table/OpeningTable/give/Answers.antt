use Rattle.std.proofs.Common.{sym, ap, ◌∙◌, List}
use Rattle.std.proofs.lemmas.Result.{on_ok_weaker}
use Rattle.am_text.specs.Twice.{Twice}
use Rattle.plumb_ports.specs.Inboxes.{Inbox, must_wait, inbox_of}
use Rattle.plumb_ports.proofs.EachLemmas.{either}
use Rattle.plumb_ports.proofs.OpeningLemmas.{inbox-none, inbox-some, read-none, read-some, read-kept}
use Rattle.plumb_ports.proofs.opening_table.OpeningTable.give.Goals as goal

pub returns-in_default-clause-piece : goal.returns-in_default-clause-piece
returns-in_default-clause-piece c =
    rw (← c.self.view_is, inbox-none c.self.inside.all.items c.args.opening (cc), c.new.ensures) (either _ _)

pub returns-in_default-clause-ok : goal.returns-in_default-clause-ok
returns-in_default-clause-ok c = rw (← c.self.view_is) (read-none _ _ _ c.args.count (cc))

pub give-requires : goal.give-requires
give-requires c =
    sym (ap (λ o. must_wait o c.args.count) (inbox-some c.self.inside.all.items c.args.opening c.in-Some.place
    c.index_mut-queue.result.now (cc) (cc)))
    ∙ ap (λ (t : Twice (List Inbox)). must_wait (inbox_of t.present c.args.opening) c.args.count) c.self.view_is
    ∙ c.requires

pub returns-clause-piece : goal.returns-clause-piece
returns-clause-piece c =
    rw (
      ← c.self.view_is,
      inbox-some c.self.inside.all.items c.args.opening c.in-Some.place c.index_mut-queue.result.now
          (cc) (cc),
    )
    c.give.ensures.piece

pub returns-clause-ok : goal.returns-clause-ok
returns-clause-ok c =
    rw (← c.self.view_is)
    (on_ok_weaker c.give.result (λ e. read-some _ _ _ _ _ c.index_mut-queue.result.now _ (cc) (cc) (cc))
    c.give.ensures.ok)

pub returns-clause-kept : goal.returns-clause-kept
returns-clause-kept c =
    rw (← c.self.view_is) (read-kept _ _ _ c.index_mut-queue.result.now _ (cc) c.give.ensures.kept)
