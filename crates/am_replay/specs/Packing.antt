-- What a text in words spells, and what is written.
use Rattle.std.specs.Prelude.{◌≡◌, ℕ, ◌+◌, nat_lt, List, [], ◌∷◌, ◌++◌, length, Option, Some, None, if◌then◌else◌}
use Rattle.std.specs.Prelude.{codes}
use Rattle.am_text.specs.Lines.{lines_of}
use Rattle.am_journal.specs.declared.event.Format.{Format}
use Rattle.am_journal.specs.declared.event.Journal.{Journal}
use Rattle.am_journal.specs.Journal.{journal_in, longer, format_of, behind_heading, first_line, is_report, journal_text}
use Rattle.am_journal.specs.Texts.{refused_text}
use Rattle.ninep_trace.specs.declared.line.Line.{Line}
use Rattle.ninep_trace.specs.declared.line.Line.TheVariants as line
use Rattle.ninep_trace.specs.Reading.{line_of}
use Rattle.am_replay.specs.Scripts.{none_read}
use Rattle.am_replay.specs.declared.packing.Fault.{Fault}
use Rattle.am_replay.specs.declared.packing.Fault.TheVariants as fault
use Rattle.am_replay.specs.declared.packing.Refusal.{Refusal}
use Rattle.am_replay.specs.declared.packing.Packing.{Packing}
use Rattle.am_replay.specs.declared.packing.Did.{Did}
use Rattle.am_replay.specs.declared.packing.Did.TheVariants as did

-- this journal, and nothing is refused
abbrev pub all_of : Journal → Packing
all_of journal = record { journal = journal; refused = None }

-- a line is refused, behind the events of this journal
abbrev pub refused_at : Journal → ℕ → Fault → Packing
refused_at journal k fault = record { journal = journal; refused = Some (record { line = k; fault = fault }) }

-- what a line says, and then the others
abbrev pub pack_line : Journal → ℕ → Option Line → (Journal → Packing) → Packing
pack_line journal k None go = refused_at journal k fault.Line
pack_line journal k (Some (line.Event e)) go = go (longer journal e)
pack_line journal k (Some (line.Reply c m)) go = go journal

-- the lines from number k on, where this journal came before; a line `report` ends the text
unfoldable pub pack : Journal → ℕ → List (List ℕ) → Packing
pack journal k [] = all_of journal
pack journal k (l ∷ ls) =
    if is_report l then all_of journal else pack_line journal k (line_of l) (λ next. pack next (k + 1) ls)

-- the lines behind the heading of a text of this format
abbrev pub packing_behind : Format → List (List ℕ) → Packing
packing_behind format lines = pack (journal_in format []) (first_line format) lines

-- all lines of a text
abbrev pub packing_in : List (List ℕ) → Packing
packing_in lines = packing_behind (format_of lines) (behind_heading lines)

-- the most bytes that a text in words has
abbrev pub pack_limit : ℕ
pack_limit = 67108864

-- a text that is too long is refused whole
abbrev pub too_long : Packing
too_long = refused_at none_read 0 fault.Input

-- what a text in words spells
unfoldable pub packing_of : List ℕ → Packing
packing_of bytes = if nat_lt pack_limit (length bytes) then too_long else packing_in (lines_of bytes)

-- ---- what is written

-- the word of a fault
abbrev pub fault_word : Fault → List ℕ
fault_word fault.Line = codes "line"
fault_word fault.Input = codes "input"

-- the line of a refusal, if there is one
abbrev pub refusal_text : Option Refusal → List ℕ
refusal_text None = []
refusal_text (Some refusal) = refused_text refusal.line (fault_word refusal.fault)

-- the lines of the journal, and then the line `refused`, where something is
abbrev pub packed_text : Packing → List ℕ
packed_text packing = journal_text packing.journal ++ refusal_text packing.refused

-- ---- one line

-- one line of a text, whatever comes behind it
abbrev pub line_packing : Journal → ℕ → List ℕ → (Journal → Packing) → Packing
line_packing journal k l go = if is_report l then all_of journal else pack_line journal k (line_of l) go

-- what reading one line did
abbrev pub DidLine : Did → Journal → List ℕ → Journal → Type 0
DidLine did.Read before l now = (k : ℕ) (go : Journal → Packing) → line_packing before k l go ≡ go now
DidLine did.Report before l now = (k : ℕ) (go : Journal → Packing) → line_packing before k l go ≡ all_of now
DidLine did.Nothing before l now =
    (k : ℕ) (go : Journal → Packing) → line_packing before k l go ≡ refused_at now k fault.Line
