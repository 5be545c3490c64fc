-- A journal's own text, and a journal as a transcript.
use Rattle.std.specs.Prelude.{◌≡◌, ◌⊎◌, ℕ, ◌≤◌, List, ◌++◌, length}
use Rattle.am_text.specs.Lines.{lines_of}
use Rattle.am_base.specs.Outside.{PutsFront}
use Rattle.am_base.specs.Stops.{input_limit}
use Rattle.am_base.specs.Seen.{Seen}
use Rattle.am_base.specs.Written.{IsWhole, IsCut}
use Rattle.am_journal.specs.declared.event.Format.TheVariants.{One}
use Rattle.am_journal.specs.declared.event.Journal.{Journal}
use Rattle.am_journal.specs.Journal.{journal_text}
use Rattle.am_journal.specs.Report.{report_text}
use Rattle.acme_core.specs.Views.{view_of}
use Rattle.am_replay.specs.declared.replaying.End.{End}
use Rattle.am_replay.specs.declared.replaying.End.TheVariants.{Done, Usage, Script, ReadFault, WriteFault, NoMemory}
use Rattle.am_replay.specs.Scripts.{Refusal, ended, refused_at, script_in, script_of, replied, text_of}
use Rattle.am_replay.specs.Ends.{IsIdle}

-- the lines of the journal's replies, and then the report of its run
abbrev pub told_text : Journal → List ℕ
told_text journal = text_of (ended journal)

-- the lines of the journal's replies, and then the line `refused`
abbrev pub refused_after : Journal → Refusal → List ℕ
refused_after journal refusal = text_of (refused_at journal refusal.line refusal.word)

-- What the output got is the journal's own text: whole, or a front of it where the count of faults has
-- risen or memory ran out.
abbrev pub PutsOwn : End → Seen → Journal → Type 0
PutsOwn Done o journal = IsWhole o (told_text journal)
PutsOwn Usage o journal = IsIdle One o journal
PutsOwn Script o journal =
    (refusal : Refusal) × (IsWhole o (refused_after journal refusal) ⊎ IsCut o (refused_after journal refusal))
PutsOwn ReadFault o journal = IsIdle One o journal
PutsOwn WriteFault o journal = IsCut o (told_text journal)
PutsOwn NoMemory o journal = PutsFront o.before.bytes (told_text journal) o.now.bytes

-- the journal's lines, and then the report of its run
abbrev pub transcript_of : Journal → List ℕ
transcript_of journal = journal_text journal ++ report_text (view_of journal)

-- A replay of these bytes does the journal's events and no others, in its format, and writes the same report.
pub record GivesAgain (bytes : List ℕ) (journal : Journal) : Type 0 where
  pub events : script_of bytes ≡ ended journal
  pub text : text_of (script_of bytes) ≡ replied journal ++ report_text (view_of journal)

-- The lines of the journal, and then the report of its run, ask for the journal's events and no others, in its format,
-- each enabled at its place, however many they are. Where they are no more bytes than a transcript has, they are one.
pub record RoundTrips (journal : Journal) : Type 0 where
  pub lines : script_in (lines_of (transcript_of journal)) ≡ ended journal
  pub again : length (transcript_of journal) ≤ input_limit → GivesAgain (transcript_of journal) journal
