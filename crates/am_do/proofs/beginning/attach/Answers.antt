use Rattle.std.proofs.Common.{◌≡◌, [], ap, subst}
use Rattle.ninep_client.specs.Asking.{is_version}
use Rattle.am_do.specs.Talks.{Reply, asks, attach_told}
use Rattle.am_do.specs.Went.{Went}
use Rattle.am_do.proofs.Steps.{halted_memory}
use Rattle.am_do.proofs.Begun.{went_attached, halted_unattached, halted_attaching}
use Rattle.am_do.proofs.beginning.attach.Goals as goal

pub returns-in_default-clause-err : goal.returns-in_default-clause-err
returns-in_default-clause-err g c = halted_memory (attach_told c.args.client.now.talk.msize c.args.tree.now)
    c.args.client.now.talk (g.W.Sink.told c.args.client.now.sink).bytes (g.R.Source.told c.args.client.now.source).bytes
    (g.W.Sink.told c.args.client.now.sink).faults (g.R.Source.told c.args.client.now.source).faults

pub returns-in-Ok-Ok-clause-ok : goal.returns-in-Ok-Ok-clause-ok
returns-in-Ok-Ok-clause-ok g c =
    let same : c.ask.new.client.talk.msize ≡ c.args.client.now.talk.msize =
    c.in-Ok-Ok.ensures.same (ap is_version c.in-Ok.ensures.message) in
    went_attached c.args.client.now.talk.msize c.ask.new.client.talk.msize c.args.tree.now c.in-Ok.message
    c.in-Ok-Ok.field-0-0 c.in-Ok.ensures.message same
    (subst (λ (x : Reply). Went (asks c.args.client.now.talk.msize c.in-Ok.message) c.args.client.now.talk
    c.ask.new.client.talk (g.W.Sink.told c.args.client.now.sink).bytes (g.W.Sink.told c.ask.new.client.sink).bytes
    (g.R.Source.told c.args.client.now.source).bytes (g.R.Source.told c.ask.new.client.source).bytes [] x)
    c.in-Ok-Ok.field-0-is c.in-Ok-Ok.ensures.ok)

pub returns-in-Ok-Err-clause-err : goal.returns-in-Ok-Err-clause-err
returns-in-Ok-Err-clause-err g c =
    halted_unattached c.args.client.now.talk.msize c.args.tree.now c.in-Ok.message c.in-Ok-Err.field-0-0
    (g.W.Sink.told c.args.client.now.sink).faults (g.W.Sink.told c.ask.new.client.sink).faults
    (g.R.Source.told c.args.client.now.source).faults (g.R.Source.told c.ask.new.client.source).faults
    c.in-Ok.ensures.message c.ask.ensures.later_sink c.ask.ensures.later_source
    (subst (λ (x : Reply). Went (asks c.args.client.now.talk.msize c.in-Ok.message) c.args.client.now.talk
    c.ask.new.client.talk (g.W.Sink.told c.args.client.now.sink).bytes (g.W.Sink.told c.ask.new.client.sink).bytes
    (g.R.Source.told c.args.client.now.source).bytes (g.R.Source.told c.ask.new.client.source).bytes [] x)
    c.in-Ok-Err.field-0-is c.in-Ok-Err.ensures.ok)

pub returns-clause-err : goal.returns-clause-err
returns-clause-err g c = halted_attaching c.args.client.now.talk.msize c.args.tree.now c.in-Ok.message
    c.in-Ok.ensures.message c.in-Err.ensures.err
