-- How a replay ends.
use Rattle.std.specs.Prelude.{◌≡◌, ◌⊎◌, ℕ, List, None}
use Rattle.am_base.specs.Outside.{BytesTold, HasRisen}
use Rattle.am_base.specs.Seen.{Given, Seen}
use Rattle.am_base.specs.Written.{IsWhole}
use Rattle.am_journal.specs.declared.event.Journal.{Journal}
use Rattle.am_slots.specs.Slots.{Outside}
use Rattle.am_server.specs.Complete.{NothingFails, whole_text}
use Rattle.am_server.specs.declared.served.Served.{Served}
use Rattle.am_server.specs.declared.writing.ServeEnd.{ServeEnd}
use Rattle.am_server.specs.declared.writing.ServeEnd.TheVariants as serving
use Rattle.am_drill.specs.declared.driving.DrillEnd.{DrillEnd}
use Rattle.am_drill.specs.declared.driving.DrillEnd.TheVariants as drilling
use Rattle.am_drill.specs.Drill.{drill_journal}
use Rattle.am_drill.specs.Ends.{DrillSays}
use Rattle.am_drill.specs.Summary.{summary}
use Rattle.am_replay.specs.declared.replaying.End.{End}
use Rattle.am_replay.specs.declared.replaying.End.TheVariants.{Done, Usage, Script, ReadFault, WriteFault, NoMemory}
use Rattle.am_replay.specs.Ends.{Ran}
use Rattle.am_replay.specs.Scripts as scripts
use Rattle.acmefs.specs.declared.status.Status.{Status}
use Rattle.acmefs.specs.declared.status.Status.TheVariants as exit

-- the exit status
abbrev pub status_of : End → Status
status_of Done = exit.Done
status_of Usage = exit.Usage
status_of Script = exit.Refused
status_of ReadFault = exit.ReadFault
status_of WriteFault = exit.WriteFault
status_of NoMemory = exit.NoMemory

-- the exit status where connections were served
abbrev pub serve_status : ServeEnd → Status
serve_status serving.Done = exit.Done
serve_status serving.Script = exit.Refused
serve_status serving.ReadFault = exit.ReadFault
serve_status serving.WriteFault = exit.WriteFault
serve_status serving.HostFault = exit.HostFault
serve_status serving.NoMemory = exit.NoMemory

-- the exit status of a drill
abbrev pub drill_status : DrillEnd → Status
drill_status drilling.Done = exit.Done
drill_status drilling.WriteFault = exit.WriteFault
drill_status drilling.NoMemory = exit.NoMemory

-- Completeness: where no event is refused and no count of faults rises, the whole text is written, or memory runs out.
abbrev pub IsComplete : Status → scripts.Script → BytesTold → BytesTold → Seen → Journal → Type 0
IsComplete status script before now o journal = script.refused ≡ None → ¬ HasRisen before.faults now.faults
    → ¬ HasRisen o.before.faults o.now.faults
    → ((status ≡ exit.Done) × Ran Done script o journal) ⊎ (status ≡ exit.NoMemory)

-- what a drill of so many rounds comes to, by its status
abbrev pub Drilled : Status → ℕ → Seen → Journal → Type 0
Drilled status rounds o journal = (end : DrillEnd) × (status ≡ drill_status end) × DrillSays end rounds o journal

-- Completeness of a drill: where the output's count of faults doesn't rise, the whole summary is written, or memory
-- runs out.
abbrev pub IsDrilled : Status → ℕ → Seen → Journal → Type 0
IsDrilled status rounds o journal = ¬ HasRisen o.before.faults o.now.faults
    → ((status ≡ exit.Done) × (journal ≡ drill_journal rounds) × IsWhole o (summary (drill_journal rounds)))
    ⊎ (status ≡ exit.NoMemory)

-- Completeness of serving: where no line is refused and no count of faults rises, the whole text is written, or memory
-- runs out.
abbrev pub IsServeComplete : {G L S K : Type 0} → Status → Outside G L S K → ℕ → List ℕ → Given → Seen → Journal
    → List (Served G L S K) → Type 0
IsServeComplete status m clients script i o journal served =
    NothingFails m clients script i o journal served → ((status ≡ exit.Done) × IsWhole o (whole_text journal))
    ⊎ (status ≡ exit.NoMemory)
