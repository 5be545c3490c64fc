use Rattle.std.proofs.Common.{◌≡◌, ◌++◌, drop}
use Rattle.std.specs.List.{AllByRecursion}
use Rattle.am_journal.specs.Journal.{events_text}
use Rattle.am_journal.specs.Lawful.{IsLawful}
use Rattle.am_replay.proofs.packing.put_events.Given as goal

abbrev pub invariant-loop-event : goal.invariant-loop-event
invariant-loop-event l =
    (l.text ++ events_text (drop l.event-index l.events) ≡ l.initial.text ++ events_text l.events)
    × AllByRecursion IsLawful (drop l.event-index l.events)
