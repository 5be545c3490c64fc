use Rattle.std.proofs.Common.{◌≡◌, ℕ, not, Some, None, refl, sym, ap, ◌∙◌}
use Rattle.am_do.specs.Talks.{agreed, begins}
use Rattle.am_do.specs.Went.{most_behind}
use Rattle.am_do.proofs.Steps.{halted_memory}
use Rattle.am_do.proofs.Begun.{onok_of, iferr_of, some_of, none_of, agreed_most, halted_version, halted_unversioned}
use Rattle.am_do.proofs.Begun.{went_attaching, halted_then_attaching}
use Rattle.am_do.proofs.beginning.begin.Goals as goal

pub returns-in_default-clause-err : goal.returns-in_default-clause-err
returns-in_default-clause-err g c = halted_memory (begins c.args.tree.now) c.args.client.now.talk
    (g.W.Sink.told c.args.client.now.sink).bytes (g.R.Source.told c.args.client.now.source).bytes
    (g.W.Sink.told c.args.client.now.sink).faults (g.R.Source.told c.args.client.now.source).faults

pub returns-in-Err-clause-err : goal.returns-in-Err-clause-err
returns-in-Err-clause-err g c = halted_version c.args.client.now.talk.msize c.args.tree.now c.in-Ok.message
    c.requires.most c.in-Ok.ensures.message c.in-Err.ensures.err

pub returns-then-is_none-clause-err : goal.returns-then-is_none-clause-err
returns-then-is_none-clause-err g c =
    let none : agreed c.in-Ok-ask.reply ≡ None = sym c.agreed.ensures
    ∙ none_of c.agreed.result (c.is_none.ensures ∙ ap not c.if-is_none.true) in
    halted_unversioned c.args.client.now.talk.msize c.args.tree.now c.in-Ok.message c.in-Ok-ask.reply
    (g.W.Sink.told c.args.client.now.sink).faults (g.W.Sink.told c.ask.new.client.sink).faults
    (g.R.Source.told c.args.client.now.source).faults (g.R.Source.told c.ask.new.client.source).faults
    c.requires.most c.in-Ok.ensures.message none c.ask.ensures.later_sink c.ask.ensures.later_source
    c.in-Ok-ask.ensures.ok

pub returns-else-is_none-clause-ok : goal.returns-else-is_none-clause-ok
returns-else-is_none-clause-ok g c =
    let some = some_of c.agreed.result (c.is_none.ensures ∙ ap not c.if-is_none.false) in
    let agrees : agreed c.in-Ok-ask.reply ≡ Some some.0 = sym c.agreed.ensures ∙ some.1 in
    let size : c.ask.new.client.talk.msize ≡ some.0 = c.in-Ok-ask.ensures.most ∙ ap (most_behind c.in-Ok-ask.reply)
    c.requires.most ∙ agreed_most c.in-Ok-ask.reply some.0 agrees in
    let same : agreed c.in-Ok-ask.reply ≡ Some c.ask.new.client.talk.msize = agrees ∙ ap (λ (x : ℕ). Some x)
    (sym size) in
    onok_of c.attach.result (went_attaching c.args.client.now.talk.msize c.ask.new.client.talk.msize
    c.attach.new.client.talk.msize c.args.tree.now c.in-Ok.message c.in-Ok-ask.reply c.requires.most
    c.in-Ok.ensures.message same c.in-Ok-ask.ensures.ok) c.attach.ensures.ok

pub returns-else-is_none-clause-err : goal.returns-else-is_none-clause-err
returns-else-is_none-clause-err g c =
    let some = some_of c.agreed.result (c.is_none.ensures ∙ ap not c.if-is_none.false) in
    let agrees : agreed c.in-Ok-ask.reply ≡ Some some.0 = sym c.agreed.ensures ∙ some.1 in
    let size : c.ask.new.client.talk.msize ≡ some.0 = c.in-Ok-ask.ensures.most ∙ ap (most_behind c.in-Ok-ask.reply)
    c.requires.most ∙ agreed_most c.in-Ok-ask.reply some.0 agrees in
    let same : agreed c.in-Ok-ask.reply ≡ Some c.ask.new.client.talk.msize = agrees ∙ ap (λ (x : ℕ). Some x)
    (sym size) in
    iferr_of c.attach.result (λ e h. halted_then_attaching c.args.client.now.talk.msize c.ask.new.client.talk.msize
    c.args.tree.now c.in-Ok.message c.in-Ok-ask.reply (g.W.Sink.told c.args.client.now.sink).faults
    (g.R.Source.told c.args.client.now.source).faults c.requires.most c.in-Ok.ensures.message same
    c.in-Ok-ask.ensures.ok refl refl c.ask.ensures.later_sink c.ask.ensures.later_source h) c.attach.ensures.err
