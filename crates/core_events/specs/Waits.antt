-- The waiting reads that a clunk and a deletion end, and those that wait no more.
use Rattle.std.specs.Prelude.{ℕ, Bool, false, ◌==◌, ◌&&◌, List, [], ◌∷◌, ◌++◌, filter, Option, Some, None}
use Rattle.std.specs.Prelude.{if◌then◌else◌}
use Rattle.std.specs.List.{fold}
use Rattle.acme_tree.specs.declared.node.Node.{Node}
use Rattle.acme_tree.specs.declared.node.Node.TheVariants.{File}
use Rattle.acme_tree.specs.declared.node.WinFile.TheVariants.{Event}
use Rattle.fid_table.specs.declared.types.Fid.{Fid}
use Rattle.fid_table.specs.declared.session.Waiting.{Waiting}
use Rattle.fid_table.specs.Tables.{Tables, fid_of, after_done}
use Rattle.core_fids.specs.declared.effect.Effect.{Effect}
use Rattle.core_fids.specs.declared.effect.Effect.TheVariants as effect
use Rattle.core_fids.specs.declared.effect.EventChange.{EventChange}
use Rattle.core_fids.specs.declared.effect.EventChange.TheVariants as events
use Rattle.core_fids.specs.declared.refusal.Refusal.{Refusal}
use Rattle.core_fids.specs.declared.refusal.Refusal.TheVariants as refusal
use Rattle.core_events.specs.declared.response.Response.{Response}
use Rattle.core_events.specs.Responses.{feed_at, error, errors}

-- the answer to a read, where there is one and it is one that is refused
abbrev pub answer_where : Refusal → Tables → (Waiting → Bool) → Option Waiting → List Response
answer_where refusal tables ends None = []
answer_where refusal tables ends (Some w) = if ends w then error refusal (feed_at tables w) w.conn w.tag ∷ [] else []

-- ---- a clunk

-- whether the read is one of this fid
abbrev pub is_of_fid : ℕ → ℕ → Waiting → Bool
is_of_fid conn fid w = (w.conn == conn) && (w.fid == fid)

-- Freeing a fid answers each of its waiting reads, the oldest first.
abbrev pub clunked : Tables → ℕ → Effect → List Response
clunked tables conn effect.Nothing = []
clunked tables conn (effect.Begins msize) = []
clunked tables conn (effect.Puts fid value) = []
clunked tables conn (effect.Frees fid) = errors refusal.FidClunked tables (filter (is_of_fid conn fid) tables.waiting)

-- ---- a deletion

-- whether the node is that window's event file
abbrev pub is_event_of : ℕ → Node → Bool
is_event_of w (File v Event) = v == w
is_event_of w node = false

-- whether a fid is of this window's event file
abbrev pub reads_event_of : ℕ → Option Fid → Bool
reads_event_of w None = false
reads_event_of w (Some fid) = is_event_of w fid.node

-- whether the read is one of that window's event file
abbrev pub is_of_window : Tables → ℕ → Waiting → Bool
is_of_window tables w r = reads_event_of w (fid_of tables r.conn r.fid)

-- Deleting a window answers each read that waits on its event file, the oldest first; windows are deleted one after
-- another.
abbrev pub deletions : Tables → List ℕ → List Response
deletions tables [] = []
deletions tables (w ∷ ws) = errors refusal.WindowDeleted tables (filter (is_of_window tables w) tables.waiting)
    ++ deletions tables ws

-- ---- reads that wait no more

-- the reads that were answered wait no more
abbrev pub ended : Tables → List Response → Tables
ended tables responses = fold (λ t r. after_done t r.conn r.message.tag) tables responses

-- the read of a flushed tag waits no more
abbrev pub without_cancelled : Tables → ℕ → EventChange → Tables
without_cancelled tables conn events.Nothing = tables
without_cancelled tables conn (events.Opens w) = tables
without_cancelled tables conn (events.Joins port) = tables
without_cancelled tables conn (events.Watches file) = tables
without_cancelled tables conn (events.Cancels tag) = after_done tables conn tag
