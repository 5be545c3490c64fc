-- Laws of all journals.
use Rattle.std.specs.Prelude.{◌≡◌, ℕ, ◌+◌, ◌<◌, true, false, List, [], ◌∷◌, ◌++◌, length, All, Option, Some, None}
use Rattle.std.specs.List.{Contains, list_any}
use Rattle.fid_table.specs.Tables.{is_waiting, msize_of}
use Rattle.wait_queue.specs.Reads.{is_read}
use Rattle.acme_watch.specs.Reads.{is_asked}
use Rattle.win_events.specs.declared.item.Item.{Item}
use Rattle.win_events.specs.declared.item.Life.TheVariants.{Back}
use Rattle.event_book.specs.BookState.{BookState, is_open_window, recorded_of, after_put}
use Rattle.am_journal.specs.declared.event.Event.{Event}
use Rattle.am_journal.specs.declared.event.Event.TheVariants as event
use Rattle.am_counter.specs.Played.{has_hang}
use Rattle.am_counter.specs.Sent.{sent}
use Rattle.acme_cmd.specs.declared.expansion.Click.TheVariants as click
use Rattle.std.specs.Option.{option_map}
use Rattle.core_scene.specs.Scenes.{SceneState}
use Rattle.core_exec.specs.Clicks.{clicked_at, own_text, argument_if_any, exec_item, look_item}
use Rattle.core_exec.specs.Looking.{look_step}
use Rattle.core_fids.specs.Fids.{is_there}
use Rattle.core_events.specs.declared.response.Response.{Response}
use Rattle.core_events.specs.Serving.{served_all, book_served_all}
use Rattle.core_events.specs.Sound.{IsIdle}
use Rattle.core_events.specs.PortSound.{ArePortsIdle}
use Rattle.core_events.specs.declared.closing.BackItem.{BackItem}
use Rattle.core_intents.specs.Doings.{doing_of}
use Rattle.acme_core.specs.Run.{run, present_after, output_at, AreEnabled, output_in}
use Rattle.core_steps.specs.Replies.{replies_of}
use Rattle.core_steps.specs.Stages.{response}
use Rattle.core_parts.specs.States.{State}
use Rattle.am_journal.specs.Limits.{connection_count}
use Rattle.core_laws.specs.Replies.{replies}
use Rattle.core_laws.specs.Saying.{said_after, said_from, is_told, is_message, flush_of, flushed, flush_body}
use Rattle.am_journal.specs.declared.event.Journal.{Journal}
use Rattle.am_journal.specs.Journal.{longer}
use Rattle.core_laws.specs.Fronts.{followed, IsFront}

-- What was replied to a connection is what was sent to it, and then what is unsent.
abbrev pub RepliesAreSentOrUnsent : Type 0
RepliesAreSentOrUnsent =
    (journal : Journal) (conn : ℕ) → conn < connection_count → replies journal conn
    ≡ sent (output_in journal.format) journal.events conn
    ++ output_at journal conn

-- A connection whose hang-up the journal has is replied nothing by the entries behind.
abbrev pub NothingAfterTheHangUp : Type 0
NothingAfterTheHangUp =
    (before journal : Journal) (conn : ℕ) → conn < connection_count → AreEnabled journal
    → IsFront before journal → has_hang before.events conn ≡ true
    → replies journal conn ≡ replies before conn

-- So where its hang-up was there and nothing was unsent, all that it was ever replied was sent.
abbrev pub EndedGetAllReplies : Type 0
EndedGetAllReplies =
    (before journal : Journal) (conn : ℕ) → conn < connection_count → AreEnabled journal
    → IsFront before journal → has_hang before.events conn ≡ true
    → output_at before conn ≡ [] → sent (output_in journal.format) journal.events conn ≡ replies journal conn

-- The replies of an entry are the bytes of what it says.
abbrev pub RepliesAreSaid : Type 0
RepliesAreSaid = (before : Journal) (e : Event) → (run (longer before e)).replies ≡ replies_of (said_after before e)

-- Where a read waits with the tag that a Tflush names, it is answered by Rflush, and nothing else is said.
abbrev pub FlushesAreAnswered : Type 0
FlushesAreAnswered =
    (before : Journal) (conn tag oldtag : ℕ) → list_any (is_waiting conn oldtag) (run before).tables.waiting ≡ true
    → said_after before (flush_of conn tag oldtag) ≡ flushed conn tag ∷ []

-- A Tflush is answered alone: by Rflush where its connection has a session, whatever stood
-- before, and else by a refusal.
abbrev pub EachFlushIsAnswered : Type 0
EachFlushIsAnswered =
    (before : Journal) (conn tag oldtag : ℕ)
    → said_after before (flush_of conn tag oldtag)
    ≡ response conn tag (flush_body (is_there (msize_of (run before).tables conn))) ∷ []

-- no read with this tag on this connection waits after a journal
pub record IsFree (journal : Journal) (conn tag : ℕ) : Type 0 where
  pub waiting : list_any (is_waiting conn tag) (run journal).tables.waiting ≡ false
  pub reads : list_any (is_read conn tag) (run journal).scene.book.reads ≡ false
  pub port_reads : list_any (is_read conn tag) (run journal).scene.ports.reads ≡ false
  pub watch_reads : list_any (is_asked conn tag) (run journal).scene.watch.reads ≡ false

-- Behind a Tflush that was answered by Rflush, whatever stood before it, no read waits with the tag that it names, and
-- nothing is said to that tag, up to the next message of that tag.
abbrev pub NothingToAFlushedTag : Type 0
NothingToAFlushedTag =
    (before : Journal) (behind : List Event) (conn tag oldtag : ℕ)
    → AreEnabled (followed before (flush_of conn tag oldtag ∷ behind))
    → Contains (said_after before (flush_of conn tag oldtag)) (flushed conn tag)
    → list_any (is_message conn oldtag) behind ≡ false
    → IsFree (followed before (flush_of conn tag oldtag ∷ behind)) conn oldtag
    × All (λ x. is_told conn oldtag x ≡ false) (said_from (longer before (flush_of conn tag oldtag)) behind)

-- ---- Exec and Look while the event file is open

-- the window in which an event executes a text, or looks at one
abbrev pub clicked_window : Event → Option ℕ
clicked_window (event.Exec at) = Some at.window
clicked_window (event.Arg at chord) = Some at.window
clicked_window (event.Look at) = Some at.window
clicked_window e = None

-- with this item, if there is one
abbrev pub with_item : BookState → ℕ → Option Item → BookState
with_item book w None = book
with_item book w (Some item) = after_put book w item

-- the item of a click, if it stands for a text
abbrev pub item_of_click : SceneState → Event → Option Item
item_of_click s (event.Exec at) = option_map (λ c. exec_item at c None) (clicked_at s.windows at click.Exec)
item_of_click s (event.Arg at chord) =
    option_map (λ c. exec_item at c (argument_if_any s.windows (Some chord))) (clicked_at s.windows at click.Exec)
item_of_click s (event.Look at) =
    option_map (λ c. look_item at c (look_step at.window (own_text c.text c.expanded) s))
    (clicked_at s.windows at click.Look)
item_of_click s e = None

-- This item comes in this window, if it is one, and reads are answered that waited. Nothing else changes,
-- and nothing else is said.
pub record OnlyTells (old new : State) (heard : List Response) (w : ℕ) (item : Option Item) : Type 0 where
  pub book : new.scene.book ≡ book_served_all (old.entries + 1) (with_item old.scene.book w item)
  pub says : heard ≡ served_all (old.entries + 1) (with_item old.scene.book w item)
  pub connections : new.connections ≡ old.connections
  pub sessions : new.tables.sessions ≡ old.tables.sessions
  pub windows : new.windows ≡ old.windows
  pub scene : record new.scene { book = old.scene.book } ≡ old.scene

-- An Exec or a Look in a window whose event file is open is told by the item of that click, and does nothing else.
abbrev pub ClicksAreTold : Type 0
ClicksAreTold =
    (before : Journal) (e : Event) (w : ℕ) → clicked_window e ≡ Some w
    → is_open_window (run before).scene.book w ≡ true
    → OnlyTells (run before) (run (longer before e)) (said_after before e) w
    (item_of_click (present_after before).scene e)

-- ---- items that are written back

-- the item that an entry writes back, after the entries before it, and whose action it does
abbrev pub written_by : Journal → Event → Option BackItem
written_by before e = (doing_of (present_after before) e).back

-- the life of the item names the entry at which it was written back
pub record IsBackAt (book : BookState) (b : BackItem) (at : ℕ) : Type 0 where
  pub item : Item
  pub opening : ℕ
  pub taken : ℕ
  pub is : recorded_of book b.window b.number ≡ Some (record { item = item; life = Back opening taken at })

-- Whatever comes behind it, the life of an item names the entry that wrote it back.
abbrev pub LivesNameTheEntry : Type 0
LivesNameTheEntry =
    (before : Journal) (behind : List Event) (e : Event) (b : BackItem) → written_by before e ≡ Some b
    → IsBackAt (run (followed before (e ∷ behind))).scene.book b (length before.events + 1)

-- So no later entry writes it back.
abbrev pub WrittenBackOnce : Type 0
WrittenBackOnce =
    (before : Journal) (between : List Event) (e f : Event) (b : BackItem) → written_by before e ≡ Some b
    → written_by (followed before (e ∷ between)) f ≡ Some b → ⊥

-- Between entries no read that waits can be answered: there is nothing for it yet.
abbrev pub NoReadCanBeAnswered : Type 0
NoReadCanBeAnswered = (journal : Journal) → IsIdle (run journal).scene.book × ArePortsIdle (run journal).scene.ports
