-- How a replay ends.
use Rattle.std.specs.Prelude.{◌≡◌, ◌⊎◌, ℕ, List, [], Option, Some, None, IfSome}
use Rattle.am_base.specs.Outside.{BytesTold, AreTold, HasRisen}
use Rattle.am_base.specs.Seen.{Seen}
use Rattle.am_base.specs.Written.{IsWhole, IsCut}
use Rattle.am_journal.specs.declared.event.Format.{Format}
use Rattle.am_journal.specs.declared.event.Format.TheVariants.{One}
use Rattle.am_journal.specs.declared.event.Journal.{Journal}
use Rattle.am_journal.specs.Journal.{journal_in}
use Rattle.am_replay.specs.declared.replaying.End.{End}
use Rattle.am_replay.specs.declared.replaying.End.TheVariants.{Done, Usage, Script, ReadFault, WriteFault, NoMemory}
use Rattle.am_replay.specs.Scripts as scripts
use Rattle.am_replay.specs.Scripts.{script_of, text_of}
use Rattle.am_replay.specs.Written.{IsFront, IsPart, IsCaughtUp}

-- Memory ran out: a front of the events was done, and what was put is the lines of their replies, but
-- perhaps those of the last.
pub record RanOut (script : scripts.Script) (o : Seen) (journal : Journal) : Type 0 where
  pub events : IsPart journal script.journal
  pub put : (text : List ℕ) × IsCaughtUp journal text × IsFront text (text_of script) × (IsWhole o text ⊎ IsCut o text)

-- nothing was written and nothing was done, and the empty journal has this format
pub record IsIdle (format : Format) (o : Seen) (journal : Journal) : Type 0 where
  pub silent : o.now.bytes ≡ o.before.bytes
  pub empty : journal ≡ journal_in format []

-- a line, or the whole input, is refused
abbrev pub IsRefused : scripts.Script → Type 0
IsRefused script = (refusal : scripts.Refusal) × (script.refused ≡ Some refusal)

-- what each end says of a script, the output and the journal
abbrev pub Ran : End → scripts.Script → Seen → Journal → Type 0
Ran Done script o journal = (journal ≡ script.journal) × (script.refused ≡ None) × IsWhole o (text_of script)
Ran Usage script o journal = ⊥
Ran Script script o journal =
    (journal ≡ script.journal) × IsRefused script × (IsWhole o (text_of script) ⊎ IsCut o (text_of script))
Ran ReadFault script o journal = ⊥
Ran WriteFault script o journal = (journal ≡ script.journal) × (script.refused ≡ None) × IsCut o (text_of script)
Ran NoMemory script o journal = RanOut script o journal

-- Some bytes, those that the input told where it tells them, were replayed so.
abbrev pub Replays : End → Option (List ℕ) → Seen → Journal → Type 0
Replays end told o journal = (bytes : List ℕ) × AreTold told bytes × Ran end (script_of bytes) o journal

-- what each end says of an input, by what it told and its count of faults, the output and the journal
abbrev pub Says : End → BytesTold → BytesTold → Seen → Journal → Type 0
Says Done before now o journal = Replays Done before.bytes o journal
Says Usage before now o journal = ⊥
Says Script before now o journal = Replays Script before.bytes o journal
Says ReadFault before now o journal = IsIdle One o journal × HasRisen before.faults now.faults
Says WriteFault before now o journal = Replays WriteFault before.bytes o journal
Says NoMemory before now o journal = Replays NoMemory before.bytes o journal

-- where the input tells its bytes, their script ran so
abbrev pub RanTold : End → Option (List ℕ) → Seen → Journal → Type 0
RanTold end told o journal = IfSome told (λ bytes. Ran end (script_of bytes) o journal)
