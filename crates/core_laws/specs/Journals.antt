-- What holds of each journal of the editor: one record of all laws of journals.
use Rattle.std.specs.Prelude.{◌≡◌, ℕ, ◌<◌, true, false, List, [], ◌∷◌, ◌++◌, length, All, Some}
use Rattle.std.specs.List.{Contains, list_any}
use Rattle.am_journal.specs.declared.event.Event.{Event}
use Rattle.fid_table.specs.Tables.{is_waiting, msize_of}
use Rattle.am_counter.specs.Played.{has_hang}
use Rattle.am_counter.specs.Sent.{sent}
use Rattle.win_text.specs.Bodies.{IsInside, IsLimitInside, text_of_groups}
use Rattle.win_text.specs.BodyStories.{BodyStory, story_text, range_now, limit_now}
use Rattle.core_windows.specs.Stories.{WindowStory, story_at, AreLawful}
use Rattle.core_windows.specs.WindowLaws.{AreNumbered}
use Rattle.core_events.specs.Sound.{IsIdle}
use Rattle.core_events.specs.PortSound.{ArePortsIdle}
use Rattle.acme_core.specs.Run.{run, output_at, IsPossible, AreEnabled, output_in}
use Rattle.am_journal.specs.Limits.{connection_count}
use Rattle.core_laws.specs.Replies.{replies}
use Rattle.core_fids.specs.Fids.{is_there}
use Rattle.core_steps.specs.Replies.{replies_of}
use Rattle.core_steps.specs.Stages.{response}
use Rattle.core_laws.specs.Saying.{said_after, said_from, is_told, is_message, flush_of, flushed, flush_body}
use Rattle.core_laws.specs.Laws.{IsFree}
use Rattle.core_laws.specs.Groups.{GroupsAreBegun}
use Rattle.core_laws.specs.Moving.{MovesAreWhole, MovesAreExecuted}
use Rattle.core_laws.specs.Answered.{MessagesAreAnswered}
use Rattle.core_laws.specs.Refusals.{RefusalsAreExact}
use Rattle.core_laws.specs.Waits.{WaitsAreTied, AreApart}
use Rattle.core_laws.specs.WriteBacks.{ActedOnOnce}
use Rattle.am_journal.specs.declared.event.Journal.{Journal}
use Rattle.am_journal.specs.Journal.{longer}
use Rattle.core_laws.specs.Fronts.{followed, IsFront}

-- A journal of the editor: each event is lawful, was enabled at its place, and could be done there.
pub record IsJournal (journal : Journal) : Type 0 where
  pub played : AreEnabled journal
  pub possible : IsPossible journal

-- The text of a body is what its groups of edits that are past make of the empty text, group by group. Each range is
-- the one that was set, moved by the edits that were made since (`range_now`), and lies in the text.
pub record IsItsHistory (s : BodyStory) : Type 0 where
  pub text : story_text s ≡ text_of_groups [] s.history.past
  pub dot : IsInside (story_text s) (range_now s.edits s.dot)
  pub addr : IsInside (story_text s) (range_now s.edits s.addr)
  pub limit : IsLimitInside (story_text s) (limit_now s.edits s.limit)

-- of each window that lives after these entries
abbrev pub BodiesAreTheirHistories : Journal → Type 0
BodiesAreTheirHistories journal =
    (w : ℕ) (s : WindowStory) → story_at (run journal).windows w ≡ Some s → IsItsHistory s.body

-- nothing is said to this tag by these entries, behind those before them, and no read waits with it
pub record IsSilent (before : Journal) (events : List Event) (conn tag : ℕ) : Type 0 where
  pub free : IsFree (followed before events) conn tag
  pub said : All (λ x. is_told conn tag x ≡ false) (said_from before events)

-- Behind an Rflush for a tag nothing is said to this tag on its connection but to a message that came after the Tflush:
-- nothing is said to it up to the next message of that tag, and then no read waits with it.
abbrev pub FlushedTagsAreSilent : Journal → Type 0
FlushedTagsAreSilent journal =
    (before : Journal) (middle behind : List Event) (conn tag oldtag : ℕ)
    → followed before (flush_of conn tag oldtag ∷ (middle ++ behind)) ≡ journal
    → Contains (said_after before (flush_of conn tag oldtag)) (flushed conn tag)
    → list_any (is_message conn oldtag) middle ≡ false
    → IsSilent (longer before (flush_of conn tag oldtag)) middle conn oldtag

-- What an entry replies is the bytes of what it says, each time to the message of a tag on a connection.
abbrev pub EntriesReplyWhatTheySay : Journal → Type 0
EntriesReplyWhatTheySay journal =
    (before : Journal) (behind : List Event) (e : Event) → followed before (e ∷ behind) ≡ journal
    → (run (longer before e)).replies
    ≡ replies_of (said_after before e)

-- A Tflush is answered alone: by Rflush where its connection has a session, whatever stood before
-- it, and else by a refusal.
abbrev pub TflushesAreAnswered : Journal → Type 0
TflushesAreAnswered journal =
    (before : Journal) (behind : List Event) (conn tag oldtag : ℕ)
    → followed before (flush_of conn tag oldtag ∷ behind) ≡ journal
    → said_after before (flush_of conn tag oldtag)
    ≡ response conn tag (flush_body (is_there (msize_of (run before).tables conn))) ∷ []

-- A Tflush says Rflush alone, which isn't said to the flushed tag; nor is anything behind it.
pub record IsFlushed (before : Journal) (middle : List Event) (conn tag oldtag : ℕ) : Type 0 where
  pub alone : said_after before (flush_of conn tag oldtag) ≡ flushed conn tag ∷ []
  pub other : is_told conn oldtag (flushed conn tag) ≡ false
  pub silent : IsSilent (longer before (flush_of conn tag oldtag)) middle conn oldtag

-- A read that waits at the entry of a Tflush for its tag is answered by no reply, at that entry or behind it: nothing
-- is said to its tag up to the next message of that tag, and no read waits with it.
abbrev pub FlushedReadsGetNothing : Journal → Type 0
FlushedReadsGetNothing journal =
    (before : Journal) (middle behind : List Event) (conn tag oldtag : ℕ)
    → followed before (flush_of conn tag oldtag ∷ (middle ++ behind)) ≡ journal
    → list_any (is_waiting conn oldtag) (run before).tables.waiting ≡ true
    → list_any (is_message conn oldtag) middle ≡ false
    → IsFlushed before middle conn tag oldtag

-- A connection whose hang-up a beginning has is replied nothing by the entries behind; so where nothing is unsent then,
-- it was sent all that it was ever replied.
pub record GetsNoMore (before journal : Journal) (conn : ℕ) : Type 0 where
  pub replied : replies journal conn ≡ replies before conn
  pub sent_all : output_at before conn ≡ [] → sent (output_in journal.format) journal.events conn ≡ replies journal conn

abbrev pub NothingBehindHangUps : Journal → Type 0
NothingBehindHangUps journal =
    (before : Journal) (conn : ℕ) → conn < connection_count → IsFront before journal
    → has_hang before.events conn ≡ true
    → GetsNoMore before journal conn

-- The laws of a journal. What is said of its beginnings holds after each of its entries.
pub record JournalLaws (journal : Journal) : Type 0 where
  -- Each window is lawful: each range was set inside the text of its time, each group of edits is what was
  -- done to the text before it.
  pub windows : (before : Journal) → IsFront before journal → AreLawful (run before).windows
  -- The text of each window follows from its groups of edits, and its addresses follow the edits.
  pub histories : (before : Journal) → IsFront before journal → BodiesAreTheirHistories before
  -- Along the groups of edits of a window, those that are past and then those undone, the numbers never fall; none
  -- is above the last entry's.
  pub groups : (before : Journal) → IsFront before journal → AreNumbered (length before.events) (run before).windows
  -- Each group's first edit was made, in that window, by the entry whose number the group has.
  pub begun : (before : Journal) → IsFront before journal → GroupsAreBegun before
  -- Undo and Redo move the groups that one step began, in all windows, and leave each other window whole. The text then
  -- is that before the group, or behind it.
  pub moves : MovesAreWhole journal
  -- Executing Undo or Redo is such a move: by an Exec with an argument or without one, and by an
  -- item that is written back.
  pub executed : MovesAreExecuted journal
  -- The reads that wait in the sessions are those of the event files and of the ports, in order, and no others.
  pub waiting : (before : Journal) → IsFront before journal → WaitsAreTied (run before)
  -- No two reads that wait have one connection and tag.
  pub tags : (before : Journal) → IsFront before journal → AreApart (run before).tables.waiting
  -- Each message has in its step just one reply to its tag, its own R message or Rerror, or is a read that waits.
  pub answered : MessagesAreAnswered journal
  -- Which refusal a message gets is told by the state: it is answered by that refusal's text, exactly where there is
  -- one, and else by its own R message, unless it waits.
  pub refused : RefusalsAreExact journal
  -- Each entry replies the bytes of what it says.
  pub said : EntriesReplyWhatTheySay journal
  -- Each Tflush of a session is answered by Rflush alone.
  pub flushes : TflushesAreAnswered journal
  -- A read that still waits at the entry of a Tflush for its tag is answered by no reply, there or later.
  pub flushed_reads : FlushedReadsGetNothing journal
  -- Behind an Rflush nothing is said to the tag that was flushed, up to the next message of that tag.
  pub silent : FlushedTagsAreSilent journal
  -- An item that is written back is acted on once.
  pub acted : ActedOnOnce journal
  -- What was replied to a connection is what was sent to it, and then what is unsent.
  pub replied : (conn : ℕ) → conn < connection_count → replies journal conn
      ≡ sent (output_in journal.format) journal.events conn
      ++ output_at journal conn
  -- Nothing is replied to a connection behind its hang-up.
  pub hung_up : NothingBehindHangUps journal
  -- No read that waits can be answered.
  pub idle : (before : Journal) → IsFront before journal → IsIdle (run before).scene.book
      × ArePortsIdle (run before).scene.ports

-- Each journal of the editor is lawful.
abbrev pub JournalsAreLawful : Type 0
JournalsAreLawful = (journal : Journal) → IsJournal journal → JournalLaws journal
