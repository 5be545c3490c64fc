-- The entries of a script's seat are events of windows.
use Rattle.std.proofs.Common.{◌≡◌, ℕ, Bool, true, false, cond, List, [], ◌∷◌, ◌++◌, Option, Some, None, refl, sym}
use Rattle.std.proofs.Common.{subst, codes}
use Rattle.std.specs.List.{AllByRecursion}
use Rattle.am_text.specs.Lines.{lines_of}
use Rattle.am_journal.specs.declared.event.Event.{Event}
use Rattle.am_journal.specs.Journal.{behind_heading, is_report}
use Rattle.am_text.specs.Front.{after_front}
use Rattle.am_journal.specs.Line.{event_of, window_at}
use Rattle.am_counter.specs.Known.{Known}
use Rattle.am_serve.specs.Gained.{Rule, Answers, plain}
use Rattle.am_serve.specs.Script.{is_scripted, asks_event, asks_window, awaits_or, asked_by, then_asked, asked_by_lines}
use Rattle.am_serve.specs.Script.{asked_events, Passed, EndsScript}
use Rattle.am_serve.specs.declared.asked.Asked.{Asked}
use Rattle.am_serve.specs.declared.asked.Asked.TheVariants.{Does, Awaits, Ends, Faulty}
use Rattle.am_serve.specs.declared.scripting.ScriptEnd.{ScriptEnd}
use Rattle.am_serve.specs.declared.scripting.ScriptEnd.TheVariants as end
use Rattle.am_slots.specs.Serving.{unseen}

-- a line that asks for an event asks for one of windows
abbrev pub IsScripted : Asked → Type 0
IsScripted (Does e) = is_scripted e ≡ true
IsScripted (Awaits w) = Unit {0}
IsScripted Ends = Unit {0}
IsScripted Faulty = Unit {0}

abbrev pub AreScripted : List Asked → Type 0
AreScripted [] = Unit {0}
AreScripted (a ∷ others) = IsScripted a × AreScripted others

either_one : (b : Bool) (x y : Asked) → IsScripted x → IsScripted y → IsScripted (cond b x y)
either_one true x y p q = p
either_one false x y p q = q

event_if : (b : Bool) (e : Event) → is_scripted e ≡ b → IsScripted (cond b (Does e) Faulty)
event_if true e is = is
event_if false e is = tt

event_scripted : (o : Option Event) → IsScripted (asks_event o)
event_scripted None = tt
event_scripted (Some e) = event_if (is_scripted e) e refl

window_scripted : (o : Option ℕ) → IsScripted (asks_window o)
window_scripted None = tt
window_scripted (Some w) = tt

awaits_scripted : (o : Option (List ℕ)) (a : Asked) → IsScripted a → IsScripted (awaits_or o a)
awaits_scripted None a p = p
awaits_scripted (Some rest) a p = window_scripted (window_at rest)

line_scripted : (line : List ℕ) → IsScripted (asked_by line)
line_scripted line =
    let others = awaits_or (after_front (codes "await ") line) (asks_event (event_of line)) in
    either_one (is_report line) Ends others tt (awaits_scripted (after_front (codes "await ") line)
    (asks_event (event_of line)) (event_scripted (event_of line)))

then_scripted : (a : Asked) (others : List Asked) → IsScripted a → AreScripted others
    → AreScripted (then_asked a others)
then_scripted (Does e) others p q = (p, q)
then_scripted (Awaits w) others p q = (tt, q)
then_scripted Ends others p q = tt
then_scripted Faulty others p q = (tt, tt)

pub lines_scripted : (lines : List (List ℕ)) → AreScripted (asked_by_lines lines)
unfolding asked_by_lines
lines_scripted [] = tt
lines_scripted (line ∷ lines) = then_scripted (asked_by line) (asked_by_lines lines) (line_scripted line)
    (lines_scripted lines)

pub front_scripted : (xs ys : List Asked) → AreScripted (xs ++ ys) → AreScripted xs
front_scripted [] ys p = tt
front_scripted (x ∷ xs) ys p = (p.0, front_scripted xs ys p.1)

events_scripted : (asked : List Asked) → AreScripted asked → AllByRecursion (λ e. is_scripted e ≡ true)
    (asked_events asked)
events_scripted [] p = tt
events_scripted (Does e ∷ others) p = (p.0, events_scripted others p.1)
events_scripted (Awaits w ∷ others) p = events_scripted others p.1
events_scripted (Ends ∷ others) p = events_scripted others p.1
events_scripted (Faulty ∷ others) p = events_scripted others p.1

entries_scripted : (entries : List (ℕ × Event)) → AllByRecursion (λ e. is_scripted e ≡ true) (plain entries)
    → AllByRecursion (λ (x : ℕ × Event). is_scripted x.1 ≡ true) entries
entries_scripted [] p = tt
entries_scripted (x ∷ entries) p = (p.0, entries_scripted entries p.1)

passed_scripted : (enabled : Rule) (answer : Answers) (lines : List Asked) (w : Known) → AreScripted lines
    → Passed enabled answer unseen lines w
    → AllByRecursion (λ (x : ℕ × Event). is_scripted x.1 ≡ true) w.mine
passed_scripted enabled answer lines w are p =
    entries_scripted w.mine (subst (λ (l : List Event). AllByRecursion (λ e. is_scripted e ≡ true) l) (sym p.events)
    (events_scripted lines are))

-- what a script's seat has added are events of windows
pub script_scripted : (enabled : Rule) (answer : Answers) (clients : ℕ) (script : List ℕ) (e : ScriptEnd) (w : Known)
    → EndsScript enabled answer clients unseen script e w
    → AllByRecursion (λ (x : ℕ × Event). is_scripted x.1 ≡ true) w.mine
script_scripted enabled answer clients script end.Done w h = passed_scripted enabled answer _ w
    (lines_scripted (behind_heading (lines_of script))) h
script_scripted enabled answer clients script (end.Refused line why) w h =
    passed_scripted enabled answer h.before w (front_scripted h.before _
    (subst AreScripted h.split (lines_scripted (behind_heading (lines_of script))))) h.passed
script_scripted enabled answer clients script end.NoMemory w h =
    passed_scripted enabled answer h.0 w (front_scripted h.0 h.1 (subst AreScripted h.2
    (lines_scripted (behind_heading (lines_of script))))) h.3
