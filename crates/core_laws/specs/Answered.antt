-- Each message is answered in its step, or is a read that waits.
use Rattle.std.specs.Prelude.{◌≡◌, ◌⊎◌, ℕ, ◌+◌, Bool, true, false, List, [], ◌∷◌, ◌++◌, All, Option, Some, None}
use Rattle.std.specs.List.{list_any}
use Rattle.ninep_types.specs.declared.message.RBody.{RBody}
use Rattle.ninep_types.specs.declared.message.TBody.{TBody}
use Rattle.ninep_types.specs.declared.message.TMsg.{TMsg}
use Rattle.ninep_types.specs.Spelling.{kind_t, kind_r}
use Rattle.fid_table.specs.Tables.{is_waiting}
use Rattle.wait_queue.specs.declared.types.Asker.{Asker}
use Rattle.event_book.specs.BookState.{read_waits}
use Rattle.plumb_ports.specs.PortsState.{read_waits as port_waits}
use Rattle.acme_watch.specs.Watching.{read_waits as watch_waits}
use Rattle.acme_watch.specs.declared.types.WatchRead.{WatchRead}
use Rattle.am_journal.specs.declared.event.Event.{Event}
use Rattle.am_journal.specs.declared.event.Event.TheVariants as event
use Rattle.core_fids.specs.declared.effect.Answer.{Answer}
use Rattle.core_fids.specs.declared.effect.Answer.TheVariants.{Says, Reads, ReadsPort, ReadsWatch}
use Rattle.core_answers.specs.Laws.{IsRefused}
use Rattle.core_events.specs.declared.response.Feed.{Feed}
use Rattle.core_events.specs.declared.response.Response.{Response}
use Rattle.core_events.specs.Responses.{event_feed, port_feed, watch_feed}
use Rattle.core_events.specs.Asking.{read_said}
use Rattle.core_events.specs.PortAsking.{port_said}
use Rattle.core_watch.specs.Asking.{watch_said}
use Rattle.core_intents.specs.Doings.{doing_of}
use Rattle.acme_core.specs.Run.{run, present_after}
use Rattle.core_steps.specs.Stages.{response, asker_of}
use Rattle.core_steps.specs.WatchReads.{watch_asked}
use Rattle.core_parts.specs.States.{State}
use Rattle.core_laws.specs.Saying.{said_after, is_told}
use Rattle.am_journal.specs.declared.event.Journal.{Journal}
use Rattle.am_journal.specs.Journal.{longer}
use Rattle.core_laws.specs.Fronts.{followed}

-- its own R message, whose type byte is one more, or Rerror with the text of a named refusal
abbrev pub IsAnswerTo : TBody → RBody → Type 0
IsAnswerTo asked body = (kind_r body ≡ kind_t asked + 1) ⊎ IsRefused body

-- what is said to a read that waited
abbrev pub TellsAWait : State → Response → Type 0
TellsAWait s x = list_any (is_waiting x.conn x.message.tag) s.tables.waiting ≡ true

-- The message is answered by this, and nothing else is said to its tag. All else answers reads that waited before.
pub record SaysOnce (s : State) (conn tag : ℕ) (body : RBody) (said : List Response) : Type 0 where
  pub front : List Response
  pub rest : List Response
  pub is : said ≡ front ++ response conn tag body ∷ rest
  pub once : All (λ x. is_told conn tag x ≡ false) (front ++ rest)
  pub others : All (TellsAWait s) (front ++ rest)

-- It waits, as it must: nothing is said, and a read with its tag waits from then on.
pub record ReadWaits (before : Journal) (conn : ℕ) (msg : TMsg) (has_to : Bool) : Type 0 where
  pub silent : said_after before (event.Msg conn msg) ≡ []
  pub waits : list_any (is_waiting conn msg.tag) (run (longer before (event.Msg conn msg))).tables.waiting ≡ true
  pub must : has_to ≡ true

-- a read of an opening: what it is read on, and whether it has to wait
pub record OpeningRead : Type 0 where
  pub feed : Feed
  pub waits : Bool

-- A read of an opening is answered at once and nothing else is said, or it waits.
abbrev pub ReadsOnce : Journal → ℕ → TMsg → OpeningRead → Option RBody → Type 0
ReadsOnce before conn msg read (Some body) = IsAnswerTo msg.body body
    × (said_after before (event.Msg conn msg) ≡ record (response conn msg.tag body) { feed = Some read.feed } ∷ [])
ReadsOnce before conn msg read None = ReadWaits before conn msg read.waits

-- a read of an event file
abbrev pub event_read : State → Asker → OpeningRead
event_read s asker = record { feed = event_feed asker.opening; waits = read_waits s.scene.book asker }

-- a read of a port
abbrev pub port_read : State → Asker → OpeningRead
port_read s asker = record { feed = port_feed asker.opening; waits = port_waits s.scene.ports asker }

-- a read of `log` or of `jobs`
abbrev pub watch_read : State → WatchRead → OpeningRead
watch_read s r = record {
  feed = watch_feed (record { file = r.file; opening = r.asker.opening });
  waits = watch_waits s.scene.watch.log s.scene.watch.jobs r;
}

-- a message got this answer, and just one reply
abbrev pub IsAnsweredBy : Journal → ℕ → TMsg → Option Answer → Type 0
IsAnsweredBy before conn msg None = ⊥
IsAnsweredBy before conn msg (Some (Says body)) =
    IsAnswerTo msg.body body × SaysOnce (run before) conn msg.tag body (said_after before (event.Msg conn msg))
IsAnsweredBy before conn msg (Some (Reads fid opening count)) =
    ReadsOnce before conn msg (event_read (run before) (asker_of conn msg.tag opening count))
    (read_said (run before).tables (run before).scene.book (asker_of conn msg.tag opening count))
IsAnsweredBy before conn msg (Some (ReadsPort fid opening count)) =
    ReadsOnce before conn msg (port_read (run before) (asker_of conn msg.tag opening count))
    (port_said (run before).tables (run before).scene.ports (asker_of conn msg.tag opening count))
IsAnsweredBy before conn msg (Some (ReadsWatch fid opening count)) =
    ReadsOnce before conn msg (watch_read (run before) (watch_asked conn msg.tag opening count))
    (watch_said (run before).tables (run before).scene.watch (watch_asked conn msg.tag opening count))

-- Each message of the journal has in its step just one reply to its tag on its connection, its own R message or Rerror;
-- or it has none and is a read that waits: its count isn't 0, and its opening has no carry, its window no item that
-- nobody took, its opening of a port no message, that of `log` no line, or there is no request for that of `jobs`
-- (`read_waits` of event_book, plumb_ports and acme_watch).
abbrev pub MessagesAreAnswered : Journal → Type 0
MessagesAreAnswered journal =
    (before : Journal) (behind : List Event) (conn : ℕ) (msg : TMsg)
    → followed before (event.Msg conn msg ∷ behind) ≡ journal
    → IsAnsweredBy before conn msg (doing_of (present_after before) (event.Msg conn msg)).answer
