-- How packing ends, by the exit status.
use Rattle.std.specs.Prelude.{◌≡◌, ◌⊎◌, ℕ, List, Option, None, IfSome}
use Rattle.am_base.specs.Outside.{BytesTold, HasRisen}
use Rattle.am_base.specs.Seen.{Seen}
use Rattle.am_journal.specs.declared.event.Journal.{Journal}
use Rattle.am_journal.specs.Journal.{AreSpelled}
use Rattle.am_replay.specs.declared.packing.Packing.{Packing}
use Rattle.am_replay.specs.declared.program.PackEnd.{PackEnd}
use Rattle.am_replay.specs.declared.program.PackEnd.TheVariants.{Done, Script, ReadFault, WriteFault, NoMemory}
use Rattle.am_replay.specs.PackEnds.{Packs, PackSays}
use Rattle.am_replay.specs.Packing.{packing_of}
use Rattle.acmefs.specs.declared.status.Status.{Status}
use Rattle.acmefs.specs.declared.status.Status.TheVariants as exit

-- the exit status
abbrev pub pack_status : PackEnd → Status
pack_status Done = exit.Done
pack_status Script = exit.Refused
pack_status ReadFault = exit.ReadFault
pack_status WriteFault = exit.WriteFault
pack_status NoMemory = exit.NoMemory

-- Where no line is refused and no count of faults rises, all lines are written, or memory runs out.
abbrev pub IsPacked : Status → Packing → BytesTold → BytesTold → Seen → Journal → Type 0
IsPacked status packing before now o journal = packing.refused ≡ None → ¬ HasRisen before.faults now.faults
    → ¬ HasRisen o.before.faults o.now.faults
    → ((status ≡ exit.Done) × Packs Done packing o journal) ⊎ (status ≡ exit.NoMemory)

-- What packing comes to, by its status: what it says of the input, the output and the journal; that all is written
-- unless something outside it failed; and that each event has a line in a transcript.
pub record PackEnds (status : Status) (before now : BytesTold) (o : Seen) (journal : Journal) : Type 0 where
  pub says : (end : PackEnd) × (status ≡ pack_status end) × PackSays end before now o journal
  pub complete : IfSome before.bytes (λ bytes. IsPacked status (packing_of bytes) before now o journal)
  pub spelled : AreSpelled journal.events
