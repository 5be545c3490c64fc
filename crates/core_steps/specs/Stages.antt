-- A step, part by part. First comes what it makes: deeds are done; the message is answered, or waits; items come;
-- waiting reads are answered. Then comes what it ends: the item that is written back, openings of freed fids and of
-- deleted windows, and reads that wait no more.
use Rattle.std.specs.Prelude.{ℕ, List, [], ◌∷◌, ◌++◌, Option, Some, None}
use Rattle.ninep_types.specs.declared.message.RBody.{RBody}
use Rattle.fid_table.specs.Tables.{Tables}
use Rattle.wait_queue.specs.declared.types.Asker.{Asker}
use Rattle.am_journal.specs.declared.event.Event.{Event}
use Rattle.event_book.specs.BookState.{BookState}
use Rattle.plumb_ports.specs.PortsState.{PortsState}
use Rattle.acme_watch.specs.Watching.{WatchState}
use Rattle.core_windows.specs.Stories.{all_changed_stories}
use Rattle.core_scene.specs.Scenes.{SceneState, done_all, deleted_by}
use Rattle.core_scene.specs.SceneLaws.{changes_in}
use Rattle.core_fids.specs.declared.effect.Answer.{Answer}
use Rattle.core_fids.specs.declared.effect.Answer.TheVariants.{Says, Reads, ReadsPort, ReadsWatch}
use Rattle.core_events.specs.declared.response.Response.{Response}
use Rattle.core_events.specs.Asking.{opened, read_said, book_read, tables_read}
use Rattle.core_events.specs.Putting.{put_all, put_living, ending}
use Rattle.core_events.specs.Responses.{event_feed}
use Rattle.core_events.specs.Serving.{served_all, book_served_all}
use Rattle.core_events.specs.Waits.{clunked, deletions}
use Rattle.core_events.specs.PortAsking.{joined_with}
use Rattle.core_events.specs.PortServing.{ports_served, ports_after_serving}
use Rattle.core_watch.specs.Asking.{opened_with}
use Rattle.core_watch.specs.Serving.{watch_served, watch_after_serving}
use Rattle.core_parts.specs.declared.kind.Kind.{Kind}
use Rattle.core_parts.specs.declared.kind.Kind.TheVariants as kind
use Rattle.core_parts.specs.Connections.{connections_after, users_after, grown}
use Rattle.core_intents.specs.Doings.{entry_of}
use Rattle.core_intents.specs.Users.{user_of}
use Rattle.core_parts.specs.Doing.{Doing}
use Rattle.core_parts.specs.Kinds.{kind_of, conn_of}
use Rattle.core_parts.specs.States.{Present, State, next_entry}
use Rattle.core_watch.specs.declared.asking.ReadAt.{ReadAt}
use Rattle.core_closing.specs.Closing.{closed_book, closed_watch, left_ports, ended_tables, left_unsent}
use Rattle.core_steps.specs.Replies.{replies_of}
use Rattle.core_steps.specs.Order.{as_asked}
use Rattle.core_steps.specs.PortReads.{port_read_of, asked_said, asked_ports, asked_tables}
use Rattle.core_steps.specs.WatchReads.{watch_read_of, followed_said, followed_watch, followed_tables}
use Rattle.core_outputs.specs.Unsent.{put_replies}

-- ---- the answer to the message, unless it reads a port, `log` or `jobs`

-- what is said to the message of a tag
abbrev pub response : ℕ → ℕ → RBody → Response
response conn tag body = record { conn = conn; message = record { tag = tag; body = body }; feed = None }

-- the answer to a read of an event file
abbrev pub read_response : ℕ → ℕ → ℕ → RBody → Response
read_response conn tag opening body = record (response conn tag body) { feed = Some (event_feed opening) }

-- the asker of a read
abbrev pub asker_of : ℕ → ℕ → ℕ → ℕ → Asker
asker_of conn tag opening count = record { conn = conn; tag = tag; opening = opening; count = count }

-- what is said to a read, if it is answered
abbrev pub if_said : ℕ → ℕ → ℕ → Option RBody → List Response
if_said conn tag opening None = []
if_said conn tag opening (Some body) = read_response conn tag opening body ∷ []

-- what is said of an answer
abbrev pub answer_said : Tables → BookState → ℕ → ℕ → Option Answer → List Response
answer_said tables book conn tag None = []
answer_said tables book conn tag (Some (Says body)) = response conn tag body ∷ []
answer_said tables book conn tag (Some (Reads fid opening count)) =
    if_said conn tag opening (read_said tables book (asker_of conn tag opening count))
answer_said tables book conn tag (Some (ReadsPort fid opening count)) = []
answer_said tables book conn tag (Some (ReadsWatch fid opening count)) = []

-- the event files after an answer
abbrev pub answer_book : Tables → BookState → ℕ → ℕ → Option Answer → ℕ → BookState
answer_book tables book conn tag None at = book
answer_book tables book conn tag (Some (Says body)) at = book
answer_book tables book conn tag (Some (Reads fid opening count)) at =
    book_read tables book (asker_of conn tag opening count) at
answer_book tables book conn tag (Some (ReadsPort fid opening count)) at = book
answer_book tables book conn tag (Some (ReadsWatch fid opening count)) at = book

-- the sessions after an answer
abbrev pub answer_tables : Tables → BookState → ℕ → ℕ → Option Answer → Tables
answer_tables tables book conn tag None = tables
answer_tables tables book conn tag (Some (Says body)) = tables
answer_tables tables book conn tag (Some (Reads fid opening count)) =
    tables_read tables book (asker_of conn tag opening count) fid
answer_tables tables book conn tag (Some (ReadsPort fid opening count)) = tables
answer_tables tables book conn tag (Some (ReadsWatch fid opening count)) = tables

-- a message alone is answered

-- what is said to the message, if the event is one
abbrev pub message_said : Tables → BookState → Kind → Option Answer → List Response
message_said tables book (kind.Dials conn) answer = []
message_said tables book (kind.Asks conn tag) answer = answer_said tables book conn tag answer
message_said tables book (kind.Ends conn why) answer = []
message_said tables book (kind.Takes conn) answer = []
message_said tables book kind.Acts answer = []

-- the event files after the message's answer
abbrev pub message_book : Tables → BookState → Kind → Option Answer → ℕ → BookState
message_book tables book (kind.Dials conn) answer at = book
message_book tables book (kind.Asks conn tag) answer at = answer_book tables book conn tag answer at
message_book tables book (kind.Ends conn why) answer at = book
message_book tables book (kind.Takes conn) answer at = book
message_book tables book kind.Acts answer at = book

-- the sessions after the message's answer
abbrev pub message_tables : Tables → BookState → Kind → Option Answer → Tables
message_tables tables book (kind.Dials conn) answer = tables
message_tables tables book (kind.Asks conn tag) answer = answer_tables tables book conn tag answer
message_tables tables book (kind.Ends conn why) answer = tables
message_tables tables book (kind.Takes conn) answer = tables
message_tables tables book kind.Acts answer = tables

-- ---- what a step makes

-- The scene once the deeds are done, each told by the event files as they stood before the step. Its ports, `log` and
-- `jobs` are those that the message finds.
abbrev pub acted : Present → Doing → SceneState
acted s d = done_all (entry_of s d) s.scene d.deeds

-- the sessions with the fid that a message puts, and with its read, where that waits
abbrev pub with_fid : Present → Kind → Doing → Tables
with_fid s k d = grown s.tables k d.effect

-- the sessions after a read of an event file
abbrev pub read_tables : Present → Kind → Doing → Tables
read_tables s k d = message_tables (with_fid s k d) s.scene.book k d.answer

-- the sessions after a read of a port, too
abbrev pub port_tables : Present → Kind → Doing → Tables
port_tables s k d = asked_tables (read_tables s k d) (acted s d).ports (port_read_of k d.answer)

-- the read of `log` or `jobs` that the message is, where it is one
abbrev pub watch_read_at : Present → Kind → Doing → Option ReadAt
watch_read_at s k d = watch_read_of k d.answer (next_entry s)

-- and the sessions after that
abbrev pub grown_tables : Present → Kind → Doing → Tables
grown_tables s k d = followed_tables (port_tables s k d) (acted s d).watch (watch_read_at s k d)

-- the event files with what a read takes, with an opening more, and with the items that come to windows that live on
abbrev pub read_book : Present → Kind → Doing → BookState
read_book s k d = message_book (with_fid s k d) s.scene.book k d.answer (next_entry s)

-- the event files after the deeds' items
abbrev pub put_book : Present → Kind → Doing → BookState
put_book s k d = put_living (deleted_by d.deeds) (opened (read_book s k d) d.events) (acted s d).items

-- waiting reads are answered, and then come the items of the windows that the step deletes
abbrev pub grown_book : Present → Kind → Doing → BookState
grown_book s k d =
    put_all (book_served_all (next_entry s) (put_book s k d)) (ending (deleted_by d.deeds) (acted s d).items)

-- the ports with what a read takes, and with an opening more
abbrev pub open_ports : Present → Kind → Doing → PortsState
open_ports s k d = joined_with (asked_ports (read_tables s k d) (acted s d).ports (port_read_of k d.answer)) d.events

-- and then waiting reads are answered
abbrev pub grown_ports : Present → Kind → Doing → PortsState
grown_ports s k d = ports_after_serving (open_ports s k d)

-- the files `log` and `jobs` with what a read takes, and with an opening more
abbrev pub open_watch : Present → Kind → Doing → WatchState
open_watch s k d = opened_with (followed_watch (port_tables s k d) (acted s d).watch (watch_read_at s k d)) d.events

-- and then waiting reads are answered
abbrev pub grown_watch : Present → Kind → Doing → WatchState
grown_watch s k d = watch_after_serving (next_entry s) (open_watch s k d)

-- what is said to the waiting reads that can be answered then, the oldest first over all files
abbrev pub served : Present → Kind → Doing → List Response
served s k d = as_asked (grown_tables s k d) (
    served_all (next_entry s) (put_book s k d)
    ∷ ports_served (open_ports s k d)
    ∷ watch_served (next_entry s) (open_watch s k d)
    ∷ [])

-- What is said: to the reads of a fid that is freed, to the message, to the reads of windows that are deleted, and
-- to the reads that can be answered then.
abbrev pub said : Present → Kind → Doing → List Response
said s k d =
    clunked s.tables (conn_of k) d.effect
    ++ message_said (with_fid s k d) s.scene.book k d.answer
    ++ asked_said (read_tables s k d) (acted s d).ports (port_read_of k d.answer)
    ++ followed_said (port_tables s k d) (acted s d).watch (watch_read_at s k d)
    ++ deletions s.tables (deleted_by d.deeds)
    ++ served s k d

-- ---- the whole

-- the sessions after an event of this kind
abbrev pub tables_after : Present → Kind → Doing → Tables
tables_after s k d = ended_tables (grown_tables s k d) k d (said s k d)

-- the event files after the step
abbrev pub book_after : Present → Kind → Doing → BookState
book_after s k d = closed_book (next_entry s) (grown_tables s k d) k d (grown_book s k d)

-- the ports after the step
abbrev pub ports_after : Present → Kind → Doing → PortsState
ports_after s k d = left_ports (grown_tables s k d) k d (grown_ports s k d)

-- the files `log` and `jobs` after the step
abbrev pub watch_after : Present → Kind → Doing → WatchState
watch_after s k d = closed_watch (next_entry s) (grown_tables s k d) k d (grown_watch s k d)

-- the scene after it
abbrev pub scene_after : Present → Kind → Doing → SceneState
scene_after s k d = record (acted s d) {
  book = book_after s k d;
  ports = ports_after s k d;
  watch = watch_after s k d;
  items = [];
  deleted = [];
}

-- the editor as it stands after an event that does this
abbrev pub after : Present → Event → Doing → Present
after s e d = record {
  entries = next_entry s;
  connections = connections_after s.connections (kind_of e);
  users = users_after s.users (kind_of e) (user_of e d.answer);
  tables = tables_after s (kind_of e) d;
  scene = scene_after s (kind_of e) d;
  unsent = left_unsent (put_replies s.unsent (replies_of (said s (kind_of e) d))) (kind_of e);
  replies = replies_of (said s (kind_of e) d);
}

-- the same of a story
abbrev pub after_story : State → Present → Event → Doing → State
after_story s p e d = record {
  entries = next_entry p;
  connections = connections_after s.connections (kind_of e);
  users = users_after s.users (kind_of e) (user_of e d.answer);
  tables = tables_after p (kind_of e) d;
  windows = all_changed_stories (next_entry p) s.windows (changes_in d.deeds);
  scene = record (scene_after p (kind_of e) d) { windows = [] };
  unsent = left_unsent (put_replies s.unsent (replies_of (said p (kind_of e) d))) (kind_of e);
  replies = replies_of (said p (kind_of e) d);
}
