-- Opening and reading event files.
use Rattle.std.specs.Prelude.{ℕ, Bool, true, false, nat_le, nat_lt, count_by, Option, Some, None, if◌then◌else◌}
use Rattle.ninep_types.specs.declared.message.RBody.{RBody}
use Rattle.ninep_types.specs.declared.message.RBody.TheVariants as r
use Rattle.fid_table.specs.Tables.{Tables, is_waiting_on, after_wait}
use Rattle.wait_queue.specs.declared.types.Asker.{Asker}
use Rattle.wait_queue.specs.declared.types.Asked.{Asked}
use Rattle.wait_queue.specs.declared.types.Asked.TheVariants.{Now, Waits}
use Rattle.event_book.specs.BookState.{BookState, is_living, after_add, asked_of, after_ask}
use Rattle.core_fids.specs.declared.effect.EventChange.{EventChange}
use Rattle.core_fids.specs.declared.effect.EventChange.TheVariants as events
use Rattle.core_fids.specs.declared.refusal.Refusal.TheVariants as refusal
use Rattle.core_fids.specs.Refusals.{refusal_text}
use Rattle.std.specs.Prelude.{length}
use Rattle.wait_queue.specs.Limits.{max_openings}
use Rattle.core_events.specs.Limits.{max_reads}

-- an opening more, where one more can be counted
abbrev pub opened : BookState → EventChange → BookState
opened book events.Nothing = book
opened book (events.Opens w) = if nat_lt (length book.owners) max_openings then after_add book w else book
opened book (events.Joins port) = book
opened book (events.Watches file) = book
opened book (events.Cancels tag) = book

-- a connection can't have more waiting reads
abbrev pub reads_are_full : Tables → ℕ → Bool
reads_are_full tables conn = nat_le (max_reads tables.format) (count_by (is_waiting_on conn) tables.waiting)

-- What is said to a read at once; none where it waits. A connection with as many reads as may wait can't have another
-- one that waits.
abbrev pub said_to : Bool → Asked → Option RBody
said_to full (Now piece) = Some (r.Read piece.bytes)
said_to true Waits = Some (r.Error (refusal_text refusal.TooManyWaitingReads))
said_to false Waits = None

-- the event files after a read, which is refused where too many wait
abbrev pub book_asked : Bool → Asked → BookState → Asker → ℕ → BookState
book_asked full (Now piece) book asker at = after_ask book asker at
book_asked true Waits book asker at = book
book_asked false Waits book asker at = after_ask book asker at

-- an opening that is closed is one of a deleted window
abbrev pub read_said : Tables → BookState → Asker → Option RBody
read_said tables book asker = if is_living book asker.opening
    then said_to (reads_are_full tables asker.conn) (asked_of book asker)
    else Some (r.Error (refusal_text refusal.WindowDeleted))

-- the event files after a read
abbrev pub book_read : Tables → BookState → Asker → ℕ → BookState
book_read tables book asker at = if is_living book asker.opening
    then book_asked (reads_are_full tables asker.conn) (asked_of book asker) book asker at
    else book

-- a read of this fid waits where nothing is said to it
abbrev pub waits_unless : Option RBody → Tables → ℕ → ℕ → ℕ → Tables
waits_unless (Some body) tables conn tag fid = tables
waits_unless None tables conn tag fid = after_wait tables conn tag fid

-- the sessions after a read, which waits in them where it isn't answered
abbrev pub tables_read : Tables → BookState → Asker → ℕ → Tables
tables_read tables book asker fid = waits_unless (read_said tables book asker) tables asker.conn asker.tag fid
