-- The journal and the number of the value under the lock.
use Rattle.std.specs.Prelude.{ℕ, List, ◌==◌, if◌then◌else◌}
use Rattle.am_journal.specs.declared.event.Event.{Event}
use Rattle.am_journal.specs.declared.event.Format.{Format}
use Rattle.am_journal.specs.declared.event.Format.TheVariants.{One, Two}
use Rattle.am_journal.specs.declared.event.Journal.{Journal}
use Rattle.am_desk.specs.declared.settled.Settled.{Settled}

-- the number of a format, which the lock keeps beside the entries
abbrev pub number_in : Format → ℕ
number_in One = 1
number_in Two = 2

-- the format that a number tells
abbrev pub format_with : ℕ → Format
format_with number = if number == 2 then Two else One

abbrev pub journal_of : Settled → Journal
journal_of s = s.core.value.journal

abbrev pub entries_of : Settled → List Event
entries_of s = (journal_of s).events

-- that of the format of its journal
abbrev pub number_of : Settled → ℕ
number_of s = number_in (journal_of s).format
