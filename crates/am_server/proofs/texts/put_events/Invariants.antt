use Rattle.std.proofs.Common.{◌≤◌, take, drop}
use Rattle.std.specs.List.{AllByRecursion}
use Rattle.am_base.specs.Seen.{seen}
use Rattle.am_base.specs.Written.{IsWhole}
use Rattle.am_journal.specs.Journal.{events_text}
use Rattle.am_journal.specs.Lawful.{IsLawful}
use Rattle.am_server.proofs.texts.put_events.Given as goal

abbrev pub invariant-loop-event : goal.invariant-loop-event
invariant-loop-event g l = record {
  put : IsWhole (seen (g.O.Sink.told l.fn.output) (g.O.Sink.told l.output))
      (events_text (take l.event-index l.events));
  later : (g.O.Sink.told l.fn.output).faults ≤ (g.O.Sink.told l.output).faults;
  lawful : AllByRecursion IsLawful (drop l.event-index l.events);
}
