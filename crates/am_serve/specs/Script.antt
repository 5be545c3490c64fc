-- What the lines of a script ask, and what is done of it.
use Rattle.std.specs.Prelude.{◌≡◌, ℕ, ◌+◌, ◌<◌, Bool, true, false, List, [], ◌∷◌, ◌++◌, length, Option, Some, None}
use Rattle.std.specs.Prelude.{if◌then◌else◌, codes}
use Rattle.am_text.specs.Lines.{lines_of}
use Rattle.am_journal.specs.declared.event.Event.{Event}
use Rattle.am_journal.specs.declared.event.Event.TheVariants as event
use Rattle.am_journal.specs.Journal.{format_of, behind_heading, first_line, is_report}
use Rattle.am_journal.specs.Lawful.{IsLawful, IsInRange}
use Rattle.am_text.specs.Front.{after_front}
use Rattle.am_journal.specs.Line.{event_of, window_at}
use Rattle.am_counter.specs.declared.ask.Ask.TheVariants.{EventOpen}
use Rattle.am_counter.specs.Known.{Known, Looks, Submits}
use Rattle.am_counter.specs.Played.{has_hang}
use Rattle.am_serve.specs.Gained.{Rule, Answers, gained, plain}
use Rattle.am_serve.specs.declared.asked.Asked.{Asked}
use Rattle.am_serve.specs.declared.asked.Asked.TheVariants.{Does, Awaits, Ends, Faulty}
use Rattle.am_serve.specs.declared.fault.LineFault.{LineFault}
use Rattle.am_serve.specs.declared.fault.LineFault.TheVariants as fault
use Rattle.am_serve.specs.declared.scripting.ScriptEnd.{ScriptEnd}
use Rattle.am_serve.specs.declared.scripting.ScriptEnd.TheVariants as end

-- ---- lines

-- the events of windows and of files, and not those of connections, stand in a script
abbrev pub is_scripted : Event → Bool
is_scripted (event.Dial c) = false
is_scripted (event.Msg c msg) = false
is_scripted (event.Hang c why) = false
is_scripted (event.Took c) = false
is_scripted event.New = true
is_scripted (event.Key w side text) = true
is_scripted (event.Sel w range) = true
is_scripted (event.Exec at) = true
is_scripted (event.Arg at chord) = true
is_scripted (event.Look at) = true
is_scripted (event.File path text) = true
is_scripted (event.Dir path) = true

-- a line that spells an event, or none
abbrev pub asks_event : Option Event → Asked
asks_event None = Faulty
asks_event (Some e) = if is_scripted e then Does e else Faulty

-- a line that waits for a window
abbrev pub asks_window : Option ℕ → Asked
asks_window None = Faulty
asks_window (Some w) = Awaits w

-- the number of a window stands behind `await `
abbrev pub awaits_or : Option (List ℕ) → Asked → Asked
awaits_or None others = others
awaits_or (Some rest) others = asks_window (window_at rest)

-- what a line asks: a line `report` ends the script
abbrev pub asked_by : List ℕ → Asked
asked_by line = if is_report line then Ends else awaits_or (after_front (codes "await ") line)
    (asks_event (event_of line))

-- an event that a line asks for is lawful
abbrev pub DoesLawful : Asked → Type 0
DoesLawful (Does e) = IsLawful e
DoesLawful (Awaits w) = Unit {0}
DoesLawful Ends = Unit {0}
DoesLawful Faulty = Unit {0}

-- and each of its numbers fits its field
abbrev pub DoesInRange : Asked → Type 0
DoesInRange (Does e) = IsInRange e
DoesInRange (Awaits w) = Unit {0}
DoesInRange Ends = Unit {0}
DoesInRange Faulty = Unit {0}

-- a line and those after it, up to one that ends or is at fault
abbrev pub then_asked : Asked → List Asked → List Asked
then_asked (Does e) others = Does e ∷ others
then_asked (Awaits w) others = Awaits w ∷ others
then_asked Ends others = []
then_asked Faulty others = Faulty ∷ []

-- what lines ask, up to a line `report`, the end, or the first line outside the grammar
unfoldable pub asked_by_lines : List (List ℕ) → List Asked
asked_by_lines [] = []
asked_by_lines (line ∷ lines) = then_asked (asked_by line) (asked_by_lines lines)

-- what a script asks for, behind its heading where it has one
abbrev pub asked_by_script : List ℕ → List Asked
asked_by_script script = asked_by_lines (behind_heading (lines_of script))

-- the number of the first of these lines: a heading counts as a line
abbrev pub first_asked : List ℕ → ℕ
first_asked script = first_line (format_of (lines_of script))

-- the events that are asked for
abbrev pub asked_events : List Asked → List Event
asked_events [] = []
asked_events (Does e ∷ others) = e ∷ asked_events others
asked_events (Awaits w ∷ others) = asked_events others
asked_events (Ends ∷ others) = asked_events others
asked_events (Faulty ∷ others) = asked_events others

-- ---- what is done

-- One line is passed: its event is submitted in a turn, or the window's event file is open at a turn.
abbrev pub PassesLine : Rule → Answers → Known → Asked → Known → Type 0
PassesLine enabled answer v (Does e) w = (n : ℕ) × Submits enabled v e n w
PassesLine enabled answer v (Awaits x) w = Looks v w × (answer w.seen (EventOpen x) ≡ true)
PassesLine enabled answer v Ends w = ⊥
PassesLine enabled answer v Faulty w = ⊥

-- Lines are passed one after another. What the seat knows between two of them has the entries of the earlier lines and
-- of none later.
unfoldable pub Passes : Rule → Answers → Known → List Asked → Known → Type 0
Passes enabled answer v [] w = Looks v w
Passes enabled answer v (a ∷ others) w = (u : Known) × PassesLine enabled answer v a u
    × Passes enabled answer u others w

-- lines are passed, and the seat has gained their events
pub record Passed (enabled : Rule) (answer : Answers) (v : Known) (lines : List Asked) (w : Known) : Type 0 where
  pub passes : Passes enabled answer v lines w
  pub events : plain (gained v w) ≡ asked_events lines

-- each connection below a number has ended
abbrev pub HaveEnded : ℕ → List Event → Type 0
HaveEnded clients journal = (c : ℕ) → c < clients → has_hang journal c ≡ true

-- why a line isn't passed, over a journal
abbrev pub IsRefused : Rule → Answers → ℕ → List Event → Asked → LineFault → Type 0
IsRefused enabled answer clients journal a fault.Line = a ≡ Faulty
IsRefused enabled answer clients journal a fault.Alone = (w : ℕ) × (a ≡ Awaits w)
    × (answer journal (EventOpen w) ≡ false) × HaveEnded clients journal
IsRefused enabled answer clients journal a (fault.NotEnabled why) = (e : Event) × (a ≡ Does e)
    × (enabled journal e ≡ Some why)

-- the lines before a numbered one were passed, and that one is refused
pub record RefusedAt (enabled : Rule) (answer : Answers) (clients : ℕ) (v : Known) (script : List ℕ) (line : ℕ)
    (why : LineFault) (w : Known) : Type 0 where
  pub before : List Asked
  pub refused : Asked
  pub after : List Asked
  pub split : asked_by_script script ≡ before ++ refused ∷ after
  pub number : line ≡ length before + first_asked script
  pub passed : Passed enabled answer v before w
  pub cause : IsRefused enabled answer clients w.seen refused why

-- how a script ended
abbrev pub EndsScript : Rule → Answers → ℕ → Known → List ℕ → ScriptEnd → Known → Type 0
EndsScript enabled answer clients v script end.Done w = Passed enabled answer v (asked_by_script script) w
EndsScript enabled answer clients v script (end.Refused line why) w = RefusedAt enabled answer clients v script line why
    w
EndsScript enabled answer clients v script end.NoMemory w = (before : List Asked) × (after : List Asked)
    × (asked_by_script script ≡ before ++ after) × Passed enabled answer v before w
