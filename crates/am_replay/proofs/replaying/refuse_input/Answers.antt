use Rattle.std.proofs.Common.{codes, ◌∙◌}
use Rattle.am_replay.specs.Scripts.{none_read, refused_at}
use Rattle.am_replay.proofs.Ran.{ran_refused, ran_unread}
use Rattle.am_replay.proofs.Traced.{traces_refused, traces_unread}
use Rattle.am_replay.proofs.replaying.refuse_input.Goals as goal

pub returns-in-Ok-clause-ran : goal.returns-in-Ok-clause-ran
returns-in-Ok-clause-ran g c =
    rw (c.no_events.ensures.end, c.no_events.ensures.journal)
    (ran_refused c.put-failed.result _ c.as_slice.result.now (c.as_slice.ensures ∙ c.in-Ok.ensures)
    c.put-failed.ensures)

pub returns-in-Err-clause-ran : goal.returns-in-Err-clause-ran
returns-in-Err-clause-ran g c = rw (c.no_events-in-Err.ensures.end, c.no_events-in-Err.ensures.journal)
    (ran_unread (refused_at none_read 0 (codes "input")) (g.O.Sink.told c.args.output.now))

pub returns-in-Ok-clause-traces : goal.returns-in-Ok-clause-traces
returns-in-Ok-clause-traces g c =
    rw (c.no_events.ensures.end, c.no_events.ensures.journal)
    (traces_refused c.put-failed.result _ c.as_slice.result.now (c.as_slice.ensures ∙ c.in-Ok.ensures)
    c.put-failed.ensures)

pub returns-in-Err-clause-traces : goal.returns-in-Err-clause-traces
returns-in-Err-clause-traces g c = rw (c.no_events-in-Err.ensures.end, c.no_events-in-Err.ensures.journal)
    (traces_unread (refused_at none_read 0 (codes "input")) (g.O.Sink.told c.args.output.now))
