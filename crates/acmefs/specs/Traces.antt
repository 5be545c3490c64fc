-- How a trace ends, by its status.
use Rattle.std.specs.Prelude.{◌≡◌, ◌⊎◌, List, Some, None, IfSome}
use Rattle.am_base.specs.Outside.{BytesTold, HasRisen}
use Rattle.am_base.specs.Seen.{Seen}
use Rattle.am_journal.specs.declared.event.Journal.{Journal}
use Rattle.am_replay.specs.declared.replaying.End.{End}
use Rattle.am_replay.specs.declared.replaying.End.TheVariants.{Done}
use Rattle.am_replay.specs.Scripts as scripts
use Rattle.am_replay.specs.Scripts.{script_of}
use Rattle.am_replay.specs.Traces.{Traces, TraceSays, PacksBack}
use Rattle.acmefs.specs.Ends.{status_of}
use Rattle.acmefs.specs.declared.status.Status.{Status}
use Rattle.acmefs.specs.declared.status.Status.TheVariants as exit

-- Where no event is refused and no count of faults rises, the whole text is written, or memory runs out.
abbrev pub IsTraced : Status → scripts.Script → BytesTold → BytesTold → Seen → Journal → Type 0
IsTraced status script before now o journal = script.refused ≡ None → ¬ HasRisen before.faults now.faults
    → ¬ HasRisen o.before.faults o.now.faults
    → ((status ≡ exit.Done) × Traces Done script o journal) ⊎ (status ≡ exit.NoMemory)

-- What a trace comes to, by its status: what it says of the input, the output and the journal; that it is done and
-- written whole unless something outside it failed; and that its text is packed back.
pub record TraceEnds (status : Status) (before now : BytesTold) (o : Seen) (journal : Journal) : Type 0 where
  pub says : (end : End) × (status ≡ status_of end) × TraceSays end before now o journal
  pub complete : IfSome before.bytes (λ bytes. IsTraced status (script_of bytes) before now o journal)
  pub packs_back : status ≡ exit.Done → PacksBack journal
