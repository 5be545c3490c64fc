-- Transcripts: the heading, the lines of a journal, and reading them up to a line `report`.
use Rattle.std.specs.Prelude.{◌≡◌, ℕ, Bool, List, [], ◌∷◌, ◌++◌, Option, Some, None, if◌then◌else◌, codes, option_map}
use Rattle.std.specs.List.{AllByRecursion, flat_map}
use Rattle.std.specs.Str.{bytes_eq}
use Rattle.am_text.specs.Ascii.{newline}
use Rattle.am_text.specs.Lines.{lines_of}
use Rattle.am_journal.specs.declared.event.Event.{Event}
use Rattle.am_journal.specs.declared.event.Format.{Format}
use Rattle.am_journal.specs.declared.event.Format.TheVariants.{One, Two}
use Rattle.am_journal.specs.declared.event.Journal.{Journal}
use Rattle.am_journal.specs.declared.view.View.{View}
use Rattle.am_journal.specs.Lawful.{IsLawful, IsInRange}
use Rattle.am_journal.specs.Line.{line_text, event_of}
use Rattle.am_journal.specs.Report.{report_text}

-- ---- journals

-- the journal of a format with these events
abbrev pub journal_in : Format → List Event → Journal
journal_in format events = record { format = format; events = events }

-- a journal with one event more
abbrev pub longer : Journal → Event → Journal
longer journal e = journal_in journal.format (journal.events ++ e ∷ [])

-- ---- the heading

-- a first line `acmefs 2` is the heading of format 2, and spells no event
abbrev pub is_heading : List ℕ → Bool
is_heading line = bytes_eq line (codes "acmefs 2")

-- the format that the lines of an input tell
abbrev pub format_of : List (List ℕ) → Format
format_of [] = One
format_of (line ∷ lines) = if is_heading line then Two else One

-- the lines behind the heading, or all where there is none
abbrev pub behind_heading : List (List ℕ) → List (List ℕ)
behind_heading [] = []
behind_heading (line ∷ lines) = if is_heading line then lines else line ∷ lines

-- the number of the first line behind the heading
abbrev pub first_line : Format → ℕ
first_line One = 1
first_line Two = 2

-- the heading's line, with its newline
abbrev pub heading_text : Format → List ℕ
heading_text One = []
heading_text Two = codes "acmefs 2" ++ newline ∷ []

-- ---- the events

-- a line `report` ends a transcript
abbrev pub is_report : List ℕ → Bool
is_report line = bytes_eq line (codes "report")

-- an event and those after it, if all are in the grammar
abbrev pub then_events : Option Event → Option (List Event) → Option (List Event)
then_events None events = None
then_events (Some e) None = None
then_events (Some e) (Some events) = Some (e ∷ events)

-- the events of a transcript's lines, up to a line `report` or the end, if each of these lines is in the grammar
abbrev pub events_of : List (List ℕ) → Option (List Event)
events_of [] = Some []
events_of (line ∷ lines) = if is_report line then Some [] else then_events (event_of line) (events_of lines)

-- the line of an event, with its newline
abbrev pub ended_line : Event → List ℕ
ended_line e = line_text e ++ newline ∷ []

-- the lines of events, each with its newline
abbrev pub events_text : List Event → List ℕ
events_text events = flat_map ended_line events

-- ---- transcripts

-- the journal of a transcript's lines
abbrev pub journal_of : List (List ℕ) → Option Journal
journal_of lines = option_map (journal_in (format_of lines)) (events_of (behind_heading lines))

-- the lines of a journal, each with its newline
abbrev pub journal_text : Journal → List ℕ
journal_text journal = heading_text journal.format ++ events_text journal.events

-- events that lines spell, as those of a journal of the program are
abbrev pub AreSpelled : List Event → Type 0
AreSpelled events = AllByRecursion IsLawful events × AllByRecursion IsInRange events

-- A journal's lines and a report after them are read as that journal.
abbrev pub ReadsJournal : Type 0
ReadsJournal = (journal : Journal) (view : View) → AreSpelled journal.events
    → journal_of (lines_of (journal_text journal ++ report_text view)) ≡ Some journal
