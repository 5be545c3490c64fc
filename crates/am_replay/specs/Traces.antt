-- The text of a trace: a replay in words.
use Rattle.std.specs.Prelude.{◌≡◌, ◌≤◌, ℕ, Bool, List, [], ◌∷◌, ◌++◌, length, Result, Ok, Err, Option, None}
use Rattle.std.specs.List.{AllByRecursion, flat_map}
use Rattle.ninep_types.specs.declared.fault.WireFault.{WireFault}
use Rattle.ninep_types.specs.declared.message.RMsg.{RMsg}
use Rattle.ninep_types.specs.Reading.{r_of}
use Rattle.ninep_types.specs.Spelling.{spelling_r}
use Rattle.am_base.specs.Outside.{BytesTold, AreTold, HasRisen, PutsFront}
use Rattle.am_base.specs.Seen.{Seen}
use Rattle.am_base.specs.Written.{IsWhole, IsCut, IsPut}
use Rattle.am_journal.specs.declared.event.Event.{Event}
use Rattle.am_journal.specs.declared.event.Format.TheVariants.{One}
use Rattle.am_journal.specs.declared.event.Journal.{Journal}
use Rattle.am_journal.specs.Journal.{heading_text, journal_text}
use Rattle.ninep_trace.specs.Words.{event_words, words_r, IsReply, IsReplyInRange}
use Rattle.core_outputs.specs.declared.reply.Reply.{Reply}
use Rattle.acme_core.specs.Run.{step}
use Rattle.core_parts.specs.States.{State, start_of}
use Rattle.am_replay.specs.Packing.{all_of, pack_limit, packed_text, packing_of}
use Rattle.am_text.specs.Ascii.{newline}
use Rattle.am_replay.specs.declared.replaying.End.{End}
use Rattle.am_replay.specs.declared.replaying.End.TheVariants.{Done, Usage, Script, ReadFault, WriteFault, NoMemory}
use Rattle.am_replay.specs.declared.script.Stop.{Stop}
use Rattle.am_replay.specs.declared.script.Stop.TheVariants as stop
use Rattle.am_replay.specs.Ends.{IsIdle, IsRefused}
use Rattle.am_replay.specs.Scripts as scripts
use Rattle.am_replay.specs.Scripts.{ended, end_of, script_of}
use Rattle.am_replay.specs.Written.{Wrote, IsFront, IsPart}

-- the line of an event in words, with its newline
abbrev pub event_line : Event → List ℕ
event_line e = event_words e ++ newline ∷ []

-- the line in words of the message that the bytes are, with its newline
abbrev pub message_line : ℕ → Result RMsg WireFault → List ℕ
message_line c (Ok m) = words_r c m ++ newline ∷ []
message_line c (Err f) = []

abbrev pub reply_words : Reply → List ℕ
reply_words reply = message_line reply.conn (r_of reply.bytes)

unfoldable pub replies_words : List Reply → List ℕ
replies_words replies = flat_map reply_words replies

-- an event's line, and then those of its replies
abbrev pub entry_words : State → Event → List ℕ
entry_words s e = event_line e ++ replies_words (step s e).replies

-- the lines of all events, each before those of its replies, from a state on
unfoldable pub traced_from : State → List Event → List ℕ
traced_from s [] = []
traced_from s (e ∷ es) = entry_words s e ++ traced_from (step s e) es

-- the heading, and then the lines of all events
abbrev pub traced : Journal → List ℕ
traced journal = heading_text journal.format ++ traced_from (start_of journal.format) journal.events

-- the whole text of a trace
abbrev pub trace_of : scripts.Script → List ℕ
trace_of script = traced script.journal ++ end_of script.journal script.refused

-- ---- each reply is a message that has words

pub record HasWords (reply : Reply) : Type 0 where
  pub message : RMsg
  pub lawful : IsReply reply.conn message
  pub in_range : IsReplyInRange message
  pub bytes : reply.bytes ≡ spelling_r message

unfoldable pub AllHaveWords : State → List Event → Type 0
AllHaveWords s [] = Unit {0}
AllHaveWords s (e ∷ es) = AllByRecursion HasWords (step s e).replies × AllHaveWords (step s e) es

-- of a whole journal
abbrev pub AreAllWorded : Journal → Type 0
AreAllWorded journal = AllHaveWords (start_of journal.format) journal.events

-- ---- how a trace ends

-- what was put where a script stopped
abbrev pub Shown : Stop → Bool → Seen → Journal → Type 0
Shown stop.Report failed o journal = Wrote failed o (traced journal) × AreAllWorded journal
Shown (stop.Refused line f) failed o journal = Wrote failed o (traced journal)
Shown stop.NoMemory failed o journal = (text : List ℕ) × IsFront text (traced journal) × Wrote failed o text

-- what each end says of a script, the output and the journal
abbrev pub Traces : End → scripts.Script → Seen → Journal → Type 0
Traces Done script o journal =
    (journal ≡ script.journal) × (script.refused ≡ None) × IsWhole o (trace_of script) × AreAllWorded journal
Traces Usage script o journal = ⊥
Traces Script script o journal = (journal ≡ script.journal) × IsRefused script × IsPut o (trace_of script)
Traces ReadFault script o journal = ⊥
Traces WriteFault script o journal = (journal ≡ script.journal) × (script.refused ≡ None) × IsCut o (trace_of script)
Traces NoMemory script o journal =
    IsPart journal script.journal × PutsFront o.before.bytes (trace_of script) o.now.bytes

-- Some bytes, those that the input told where it tells them, were traced so.
abbrev pub TracesSome : End → Option (List ℕ) → Seen → Journal → Type 0
TracesSome end told o journal = (bytes : List ℕ) × AreTold told bytes × Traces end (script_of bytes) o journal

-- what each end says of an input, by what it told and its count of faults, the output and the journal
abbrev pub TraceSays : End → BytesTold → BytesTold → Seen → Journal → Type 0
TraceSays Done before now o journal = TracesSome Done before.bytes o journal
TraceSays Usage before now o journal = ⊥
TraceSays Script before now o journal = TracesSome Script before.bytes o journal
TraceSays ReadFault before now o journal = IsIdle One o journal × HasRisen before.faults now.faults
TraceSays WriteFault before now o journal = TracesSome WriteFault before.bytes o journal
TraceSays NoMemory before now o journal = TracesSome NoMemory before.bytes o journal

-- the text of a trace of which nothing is refused
abbrev pub trace_text : Journal → List ℕ
trace_text journal = trace_of (ended journal)

-- Packing the text, where it isn't too long, gives the journal and its lines.
pub record PacksBack (journal : Journal) : Type 0 where
  pub events : length (trace_text journal) ≤ pack_limit → packing_of (trace_text journal) ≡ all_of journal
  pub lines : packed_text (all_of journal) ≡ journal_text journal
