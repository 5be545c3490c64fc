-- What is said in a step, stage by stage.
use Rattle.std.specs.Prelude.{ℕ, ◌==◌, ◌&&◌, Bool, List, [], ◌∷◌, ◌++◌, length, Option}
use Rattle.fid_table.specs.Tables.{Tables}
use Rattle.event_book.specs.BookState.{BookState}
use Rattle.plumb_ports.specs.PortsState.{PortsState}
use Rattle.acme_watch.specs.Watching.{WatchState}
use Rattle.core_scene.specs.declared.deed.WindowItem.{WindowItem}
use Rattle.core_fids.specs.declared.effect.Effect.{Effect}
use Rattle.core_events.specs.declared.response.Response.{Response}
use Rattle.core_events.specs.Asking.{opened}
use Rattle.core_events.specs.Putting.{put_all, put_living, ending}
use Rattle.core_events.specs.Responses.{AreSaid}
use Rattle.core_events.specs.Serving.{served_all, book_served_all}
use Rattle.core_events.specs.Waits.{clunked, deletions}
use Rattle.core_events.specs.PortAsking.{joined_with}
use Rattle.core_events.specs.PortServing.{ports_served, ports_after_serving}
use Rattle.core_watch.specs.Asking.{opened_with}
use Rattle.core_watch.specs.Serving.{watch_served, watch_after_serving}
use Rattle.core_watch.specs.declared.asking.ReadAt.{ReadAt}
use Rattle.core_parts.specs.Connections.{grown}
use Rattle.core_parts.specs.Kinds.{conn_of}
use Rattle.core_parts.specs.declared.parts.Parts.{Parts}
use Rattle.core_steps.specs.declared.files.Asks.{Asks}
use Rattle.core_steps.specs.declared.saying.Heard.{Heard}
use Rattle.core_steps.specs.Order.{as_asked}
use Rattle.core_steps.specs.PortReads.{port_read_of, asked_said, asked_ports, asked_tables}
use Rattle.core_steps.specs.WatchReads.{watch_read_of, followed_said, followed_watch, followed_tables}
use Rattle.core_steps.specs.Stages.{message_said, message_book, message_tables}

-- all of it, in order
abbrev pub all_of : Heard → List Response
all_of h = h.clunked ++ h.answered ++ h.asked ++ h.followed ++ h.deleted ++ h.served

-- each part of it can be said
pub record AreAllSaid (h : Heard) : Type 0 where
  pub clunked : AreSaid h.clunked
  pub answered : AreSaid h.answered
  pub asked : AreSaid h.asked
  pub followed : AreSaid h.followed
  pub deleted : AreSaid h.deleted
  pub served : AreSaid h.served

-- whether nothing is said but the answer to the message, if it is
abbrev pub is_answer_alone : Heard → Bool
is_answer_alone h =
    ((((length h.clunked == 0) && (length h.asked == 0)) && (length h.followed == 0)) && (length h.deleted == 0))
    && (length h.served == 0)

-- ---- what an event finds once its task was done, and what it does to that

-- the sessions as they were, what the message does to its fids, the event files, the ports, and the files `log` and
-- `jobs`
pub record Finds : Type 0 where
  pub tables : Tables
  pub effect : Effect
  pub book : BookState
  pub ports : PortsState
  pub watch : WatchState

-- what it finds in the tables of the editor
abbrev pub found_in : Parts → Effect → Finds
found_in p effect = record {
  tables = p.sessions.present;
  effect = effect;
  book = p.scene.book.present;
  ports = p.scene.ports.present;
  watch = p.scene.watch.present;
}

-- the sessions with the fid that the message puts
abbrev pub with_fid_in : Finds → Asks → Tables
with_fid_in f asks = grown f.tables asks.kind f.effect

-- and with its read of an event file, where that waits
abbrev pub tables_answered : Finds → Asks → Tables
tables_answered f asks = message_tables (with_fid_in f asks) f.book asks.kind asks.answer

-- and with its read of a port
abbrev pub tables_asked : Finds → Asks → Tables
tables_asked f asks = asked_tables (tables_answered f asks) f.ports (port_read_of asks.kind asks.answer)

-- its read of `log` or `jobs`, where it is one
abbrev pub watch_read_for : Asks → Option ReadAt
watch_read_for asks = watch_read_of asks.kind asks.answer asks.at

-- and with that
abbrev pub tables_heard : Finds → Asks → Tables
tables_heard f asks = followed_tables (tables_asked f asks) f.watch (watch_read_for asks)

-- the event files with what the message takes and opens, and with the items of windows that live on
abbrev pub book_put : Finds → Asks → List WindowItem → List ℕ → BookState
book_put f asks items deleted =
    put_living deleted (opened (message_book (with_fid_in f asks) f.book asks.kind asks.answer asks.at) asks.events)
    items

-- and then, once waiting reads are answered, with those of windows that the step deletes
abbrev pub book_heard : Finds → Asks → List WindowItem → List ℕ → BookState
book_heard f asks items deleted =
    put_all (book_served_all asks.at (book_put f asks items deleted)) (ending deleted items)

-- the ports with what the message takes and opens
abbrev pub ports_opened : Finds → Asks → PortsState
ports_opened f asks =
    joined_with (asked_ports (tables_answered f asks) f.ports (port_read_of asks.kind asks.answer)) asks.events

-- and once waiting reads are answered
abbrev pub ports_heard : Finds → Asks → PortsState
ports_heard f asks = ports_after_serving (ports_opened f asks)

-- the files `log` and `jobs` with what the message takes and opens
abbrev pub watch_opened : Finds → Asks → WatchState
watch_opened f asks = opened_with (followed_watch (tables_asked f asks) f.watch (watch_read_for asks)) asks.events

-- and once waiting reads are answered
abbrev pub watch_heard : Finds → Asks → WatchState
watch_heard f asks = watch_after_serving asks.at (watch_opened f asks)

-- what is said to waiting reads that can be answered, the oldest first over all files
abbrev pub served_heard : Finds → Asks → List WindowItem → List ℕ → List Response
served_heard f asks items deleted = as_asked (tables_heard f asks) (
    served_all asks.at (book_put f asks items deleted)
    ∷ ports_served (ports_opened f asks)
    ∷ watch_served asks.at (watch_opened f asks)
    ∷ [])

-- all that is said then
abbrev pub heard_of : Finds → Asks → List WindowItem → List ℕ → Heard
heard_of f asks items deleted = record {
  clunked = clunked f.tables (conn_of asks.kind) f.effect;
  answered = message_said (with_fid_in f asks) f.book asks.kind asks.answer;
  asked = asked_said (tables_answered f asks) f.ports (port_read_of asks.kind asks.answer);
  followed = followed_said (tables_asked f asks) f.watch (watch_read_for asks);
  deleted = deletions f.tables deleted;
  served = served_heard f asks items deleted;
}
