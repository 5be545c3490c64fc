-- Journals and their fronts.
use Rattle.std.specs.Prelude.{◌≡◌, List, ◌++◌}
use Rattle.am_journal.specs.declared.event.Event.{Event}
use Rattle.am_journal.specs.declared.event.Journal.{Journal}
use Rattle.am_journal.specs.Journal.{journal_in}

-- a journal with these events behind its own
abbrev pub followed : Journal → List Event → Journal
followed journal events = journal_in journal.format (journal.events ++ events)

-- a journal of the same format has the first of the other's events
abbrev pub IsFront : Journal → Journal → Type 0
IsFront before journal = (rest : List Event) × (followed before rest ≡ journal)
