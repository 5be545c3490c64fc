-- What a transcript asks, and the text that its replay writes.
use Rattle.std.specs.Prelude.{ℕ, ◌+◌, nat_lt, List, [], ◌∷◌, ◌++◌, length, Option, Some, None, if◌then◌else◌, codes}
use Rattle.std.specs.List.{flat_map}
use Rattle.am_text.specs.Lines.{lines_of}
use Rattle.am_base.specs.Stops.{input_limit}
use Rattle.am_journal.specs.declared.event.Event.{Event}
use Rattle.am_journal.specs.declared.event.Format.{Format}
use Rattle.am_journal.specs.declared.event.Format.TheVariants.{One}
use Rattle.am_journal.specs.declared.event.Journal.{Journal}
use Rattle.am_journal.specs.declared.event.Why.{Why}
use Rattle.am_journal.specs.Journal.{journal_in, longer, format_of, behind_heading, first_line, is_report}
use Rattle.am_journal.specs.Line.{event_of}
use Rattle.am_journal.specs.Report.{report_text}
use Rattle.am_journal.specs.Texts.{reply_text, refused_text, word_of}
use Rattle.core_outputs.specs.declared.reply.Reply.{Reply}
use Rattle.acme_core.specs.Run.{step, enabled}
use Rattle.core_parts.specs.States.{State, start_of}
use Rattle.acme_core.specs.Views.{view_of}

-- the line that is refused, by its number from 1, and the word for the reason; the number of the input as a whole is 0
pub record Refusal : Type 0 where
  pub line : ℕ
  pub word : List ℕ

-- the journal of what is done, and the line that is refused, if one is
pub record Script : Type 0 where
  pub journal : Journal
  pub refused : Option Refusal

abbrev pub ended : Journal → Script
ended journal = record { journal = journal; refused = None }

abbrev pub refused_at : Journal → ℕ → List ℕ → Script
refused_at journal line word = record { journal = journal; refused = Some (record { line = line; word = word }) }

-- an event is done where it is enabled, and the script goes on behind it
abbrev pub play_event : Journal → ℕ → Event → Option Why → (Journal → Script) → Script
play_event journal k e (Some why) go = refused_at journal k (word_of why)
play_event journal k e None go = go (longer journal e)

abbrev pub play_line : Journal → ℕ → Option Event → (Journal → Script) → Script
play_line journal k None go = refused_at journal k (codes "line")
play_line journal k (Some e) go = play_event journal k e (enabled journal e) go

-- the lines from number k on, where this journal was done before; a line `report` ends the script
unfoldable pub play : Journal → ℕ → List (List ℕ) → Script
play journal k [] = ended journal
play journal k (l ∷ ls) =
    if is_report l then ended journal else play_line journal k (event_of l) (λ next. play next (k + 1) ls)

-- the lines behind the heading of a transcript of this format
abbrev pub script_behind : Format → List (List ℕ) → Script
script_behind format lines = play (journal_in format []) (first_line format) lines

-- all lines of a transcript
abbrev pub script_in : List (List ℕ) → Script
script_in lines = script_behind (format_of lines) (behind_heading lines)

-- the empty journal where no line is read
abbrev pub none_read : Journal
none_read = journal_in One []

-- the script of a transcript; one that is too long is refused whole
unfoldable pub script_of : List ℕ → Script
script_of bytes =
    if nat_lt input_limit (length bytes) then refused_at none_read 0 (codes "input") else script_in (lines_of bytes)

-- a line for each reply
abbrev pub reply_line : Reply → List ℕ
reply_line reply = reply_text reply.conn reply.bytes

unfoldable pub reply_lines : List Reply → List ℕ
reply_lines replies = flat_map reply_line replies

-- the lines of all replies, each after the event that made it, from a state on
unfoldable pub replied_from : State → List Event → List ℕ
replied_from s [] = []
replied_from s (e ∷ es) = reply_lines (step s e).replies ++ replied_from (step s e) es

abbrev pub replied : Journal → List ℕ
replied journal = replied_from (start_of journal.format) journal.events

-- the report, or the line `refused`
abbrev pub end_of : Journal → Option Refusal → List ℕ
end_of journal None = report_text (view_of journal)
end_of journal (Some refusal) = refused_text refusal.line refusal.word

-- the whole text of a replay
abbrev pub text_of : Script → List ℕ
text_of script = replied script.journal ++ end_of script.journal script.refused
