-- What a line of a script did.
use Rattle.std.specs.Prelude.{◌≡◌, ℕ, ◌<◌, false, List, Some}
use Rattle.am_journal.specs.declared.event.Event.{Event}
use Rattle.am_counter.specs.Known.{Known, Looks, Submits}
use Rattle.am_counter.specs.Played.{has_hang}
use Rattle.am_serve.specs.Gained.{Rule, Answers}
use Rattle.am_serve.specs.Script.{PassesLine, IsRefused}
use Rattle.am_serve.specs.declared.asked.Asked.{Asked}
use Rattle.am_serve.specs.declared.asked.Asked.TheVariants.{Ends}
use Rattle.am_serve.specs.declared.fault.LineFault.{LineFault}
use Rattle.am_serve.specs.declared.fault.LineFault.TheVariants as fault
use Rattle.am_serve.specs.declared.scripting.LineEnd.{LineEnd}
use Rattle.am_serve.specs.declared.scripting.LineEnd.TheVariants as end

-- a connection below a number hasn't ended
abbrev pub GoesOn : ℕ → List Event → Type 0
GoesOn clients journal = (c : ℕ) × (c < clients) × (has_hang journal c ≡ false)

-- why an event of the script was refused
abbrev pub RefusesEvent : Rule → Known → Event → LineFault → Known → Type 0
RefusesEvent enabled v e fault.Line w = ⊥
RefusesEvent enabled v e fault.Alone w = ⊥
RefusesEvent enabled v e (fault.NotEnabled why) w = Looks v w × (enabled w.seen e ≡ Some why)

-- an event is submitted
abbrev pub DoesEvent : Rule → Known → Event → LineEnd → Known → Type 0
DoesEvent enabled v e end.Passed w = (n : ℕ) × Submits enabled v e n w
DoesEvent enabled v e end.Report w = ⊥
DoesEvent enabled v e (end.Refused why) w = RefusesEvent enabled v e why w
DoesEvent enabled v e end.NoMemory w = Looks v w

-- what a line asks is done
abbrev pub DoesLine : Rule → Answers → ℕ → Known → Asked → LineEnd → Known → Type 0
DoesLine enabled answer clients v a end.Passed w = PassesLine enabled answer v a w
DoesLine enabled answer clients v a end.Report w = (a ≡ Ends) × (w ≡ v)
DoesLine enabled answer clients v a (end.Refused why) w = Looks v w × IsRefused enabled answer clients w.seen a why
DoesLine enabled answer clients v a end.NoMemory w = Looks v w
