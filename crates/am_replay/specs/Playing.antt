-- The steps of a replay.
use Rattle.std.specs.Prelude.{◌≡◌, ◌⊎◌, ℕ, Bool, true, false, List, None, if◌then◌else◌}
use Rattle.am_journal.specs.declared.event.Event.{Event}
use Rattle.am_journal.specs.declared.event.Journal.{Journal}
use Rattle.am_journal.specs.Journal.{longer, is_report}
use Rattle.am_journal.specs.Line.{event_of}
use Rattle.am_journal.specs.Texts.{refused_text}
use Rattle.am_serve.specs.Faults.{fault_word}
use Rattle.core_laws.specs.Fronts.{IsFront}
use Rattle.am_replay.specs.declared.script.Did.{Did}
use Rattle.am_replay.specs.declared.script.Did.TheVariants as did
use Rattle.am_replay.specs.declared.script.Stop.{Stop}
use Rattle.am_replay.specs.declared.script.Stop.TheVariants as stop
use Rattle.am_replay.specs.declared.replaying.End.{End}
use Rattle.am_replay.specs.declared.replaying.End.TheVariants as ends
use Rattle.am_replay.specs.Scripts.{Script, ended, refused_at, play_line, end_of}
use Rattle.am_base.specs.Seen.{Seen}
use Rattle.am_replay.specs.Written.{Wrote, IsCaughtUp}

-- one line of a script, whatever comes behind it
abbrev pub line_script : Journal → ℕ → List ℕ → (Journal → Script) → Script
line_script journal k line go = if is_report line then ended journal else play_line journal k (event_of line) go

-- what one line did
abbrev pub DidLine : Did → Journal → ℕ → List ℕ → Journal → Type 0
DidLine did.Event before k line now =
    ((go : Journal → Script) → line_script before k line go ≡ go now) × ((e : Event) × (now ≡ longer before e))
DidLine did.Report before k line now =
    ((go : Journal → Script) → line_script before k line go ≡ ended now) × (now ≡ before)
DidLine (did.Refused f) before k line now =
    ((go : Journal → Script) → line_script before k line go ≡ refused_at now k (fault_word f)) × (now ≡ before)
DidLine did.NoMemory before k line now = now ≡ before

-- what putting a text does, by whether the output failed before and fails now
abbrev pub Put : Bool → Bool → Seen → List ℕ → Type 0
Put true true o text = (o.now.bytes ≡ o.before.bytes) × (o.now.faults ≡ o.before.faults)
Put true false o text = ⊥
Put false failed o text = Wrote failed o text

-- the script as far as it was played
abbrev pub Stops : Stop → Script → Journal → Type 0
Stops stop.Report script journal = script ≡ ended journal
Stops (stop.Refused line f) script journal = script ≡ refused_at journal line (fault_word f)
Stops stop.NoMemory script journal = IsFront journal script.journal

-- what was put by then
abbrev pub Shows : Stop → Bool → Seen → Journal → List ℕ → Type 0
Shows stop.Report failed o journal replied = Wrote failed o replied
Shows (stop.Refused line f) failed o journal replied = Wrote failed o replied
Shows stop.NoMemory failed o journal replied = (text : List ℕ) × IsCaughtUp journal text × Wrote failed o text

-- what is written where a script stopped
abbrev pub EndText : Stop → Journal → List ℕ → Type 0
EndText stop.Report journal text = text ≡ end_of journal None
EndText (stop.Refused line f) journal text = text ≡ refused_text line (fault_word f)
EndText stop.NoMemory journal text = ⊥

-- how a replay ends that stopped so
abbrev pub end_at : Stop → Bool → End
end_at stop.Report failed = if failed then ends.WriteFault else ends.Done
end_at (stop.Refused line f) failed = ends.Script
end_at stop.NoMemory failed = ends.NoMemory

-- what stands at the end was put
pub record EndIsPut (s : Stop) (failed : Bool) (o : Seen) (journal : Journal) (end : End) : Type 0 where
  pub text : List ℕ
  pub failed_now : Bool
  pub told : EndText s journal text
  pub put : Put failed failed_now o text
  pub is : end ≡ end_at s failed_now

-- what stands at the end was put, or there was no memory for it
abbrev pub Finishes : Stop → Bool → Seen → Journal → End → Type 0
Finishes s failed o journal end = EndIsPut s failed o journal end ⊎ ((end ≡ ends.NoMemory) × (o.now ≡ o.before))
