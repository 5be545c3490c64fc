use Rattle.std.proofs.lemmas.Result.{err_from_is_err_and}
use Rattle.std.proofs.Common.{drop, take, ◌+◌}
use Rattle.am_journal.specs.Journal.{ended_line, events_text}
use Rattle.am_server.proofs.Putting.{events_more, events_split, stops_more}
use Rattle.am_server.proofs.texts.put_events.Goals as goal

pub returns-in_err-put_event-clause-err : goal.returns-in_err-put_event-clause-err
returns-in_err-put_event-clause-err g c =
    let p = err_from_is_err_and c.from_residual.result c.from_residual.ensures.1 in
    let events = c.args.events.now in
    let k = c.loop-event.event-index in
    let e = c.event-item.result in
    rw (p.1, p.2)
    (stops_more c.in_err-put_event.field-0.0 (g.O.Sink.told c.args.output.now) (g.O.Sink.told c.loop-event.output)
    (g.O.Sink.told c.put_event.new.output)
    (λ n. events_text (take n events)) k (ended_line e) (events_text (drop (k + 1) events)) (events_text events)
    (events_more events k e c.loop-event-test.true c.event-item.is) (events_split events (k + 1))
    c.loop-event.invariant.put c.loop-event.invariant.later c.in_err-put_event.ensures.err)
