-- How packing ends.
use Rattle.std.specs.Prelude.{◌≡◌, ℕ, Bool, List, Option, Some, None, if◌then◌else◌}
use Rattle.am_base.specs.Outside.{BytesTold, AreTold, HasRisen}
use Rattle.am_base.specs.Seen.{Seen}
use Rattle.am_base.specs.Written.{IsWhole, IsCut, IsPut}
use Rattle.am_journal.specs.declared.event.Journal.{Journal}
use Rattle.am_replay.specs.declared.packing.Refusal.{Refusal}
use Rattle.am_replay.specs.declared.packing.Packing.{Packing}
use Rattle.am_replay.specs.declared.program.PackEnd.{PackEnd}
use Rattle.am_replay.specs.declared.program.PackEnd.TheVariants.{Done, Script, ReadFault, WriteFault, NoMemory}
use Rattle.am_replay.specs.Packing.{packing_of, packed_text}
use Rattle.am_replay.specs.Scripts.{none_read}

-- the end, by what is refused and by whether the output failed
abbrev pub end_of : Option Refusal → Bool → PackEnd
end_of (Some refusal) failed = Script
end_of None failed = if failed then WriteFault else Done

-- nothing was written, and there are no events
pub record IsIdle (o : Seen) (journal : Journal) : Type 0 where
  pub silent : o.now.bytes ≡ o.before.bytes
  pub empty : journal ≡ none_read

-- a line, or the whole text, is refused
abbrev pub IsRefused : Packing → Type 0
IsRefused packing = (refusal : Refusal) × (packing.refused ≡ Some refusal)

-- what each end says of what a text spells, the output and the journal
abbrev pub Packs : PackEnd → Packing → Seen → Journal → Type 0
Packs Done packing o journal = (journal ≡ packing.journal) × (packing.refused ≡ None) × IsWhole o (packed_text packing)
Packs Script packing o journal = (journal ≡ packing.journal) × IsRefused packing × IsPut o (packed_text packing)
Packs ReadFault packing o journal = ⊥
Packs WriteFault packing o journal =
    (journal ≡ packing.journal) × (packing.refused ≡ None) × IsCut o (packed_text packing)
Packs NoMemory packing o journal = IsIdle o journal

-- Some bytes, those that the input told where it tells them, were packed so.
abbrev pub PacksSome : PackEnd → Option (List ℕ) → Seen → Journal → Type 0
PacksSome end told o journal = (bytes : List ℕ) × AreTold told bytes × Packs end (packing_of bytes) o journal

-- what each end says of an input, by what it told and its count of faults, the output and the journal
abbrev pub PackSays : PackEnd → BytesTold → BytesTold → Seen → Journal → Type 0
PackSays Done before now o journal = PacksSome Done before.bytes o journal
PackSays Script before now o journal = PacksSome Script before.bytes o journal
PackSays ReadFault before now o journal = IsIdle o journal × HasRisen before.faults now.faults
PackSays WriteFault before now o journal = PacksSome WriteFault before.bytes o journal
PackSays NoMemory before now o journal = IsIdle o journal
