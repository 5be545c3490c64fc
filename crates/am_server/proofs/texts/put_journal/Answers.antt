use Rattle.std.proofs.Common.{List, subst, take, refl}
use Rattle.std.specs.Prelude.{OnOk, IfErr}
use Rattle.am_base.specs.Seen.{seen}
use Rattle.am_base.specs.Written.{IsWhole}
use Rattle.am_journal.specs.declared.event.Event.{Event}
use Rattle.am_journal.specs.Journal.{events_text}
use Rattle.am_server.specs.Putting.{StopsIn}
use Rattle.am_server.proofs.Putting.{events_put, events_stop, heading_cut, heading_put}
use Rattle.am_server.proofs.texts.put_journal.Goals as goal

pub returns-in-Ok-clause-ok : goal.returns-in-Ok-clause-ok
returns-in-Ok-clause-ok g c =
    events_put c.args.core.now.journal (g.O.Sink.told c.args.output.now) (g.O.Sink.told c.write_all.new.sink)
    (g.O.Sink.told c.put_events.new.output) c.put_events.result
    (heading_put c.args.core.now.journal (seen (g.O.Sink.told c.args.output.now) (g.O.Sink.told c.write_all.new.sink))
    c.heading.result.now c.format.result c.heading.ensures c.format.ensures c.in-Ok.ensures.ok)
    (subst (λ (l : List Event). OnOk c.put_events.result (IsWhole (seen (g.O.Sink.told c.write_all.new.sink)
    (g.O.Sink.told c.put_events.new.output)) (events_text l))) c.events.ensures c.put_events.ensures.ok)

pub returns-in-Ok-clause-err : goal.returns-in-Ok-clause-err
returns-in-Ok-clause-err g c =
    events_stop c.args.core.now.journal (g.O.Sink.told c.args.output.now) (g.O.Sink.told c.write_all.new.sink)
    (g.O.Sink.told c.put_events.new.output) c.put_events.result
    (heading_put c.args.core.now.journal (seen (g.O.Sink.told c.args.output.now) (g.O.Sink.told c.write_all.new.sink))
    c.heading.result.now c.format.result c.heading.ensures c.format.ensures c.in-Ok.ensures.ok)
    c.in-Ok.ensures.cause.later
    (subst (λ (l : List Event). IfErr c.put_events.result (λ s. StopsIn s (seen (g.O.Sink.told c.write_all.new.sink)
    (g.O.Sink.told c.put_events.new.output)) (events_text l) (λ n. events_text (take n l)))) c.events.ensures
    c.put_events.ensures.err)

pub returns-in-Err-clause-err : goal.returns-in-Err-clause-err
returns-in-Err-clause-err g c =
    heading_cut c.args.core.now.journal (seen (g.O.Sink.told c.args.output.now) (g.O.Sink.told c.write_all.new.sink))
    c.heading.result.now c.format.result c.heading.ensures c.format.ensures c.in-Err.ensures.err
    (c.in-Err.ensures.cause.risen refl)
