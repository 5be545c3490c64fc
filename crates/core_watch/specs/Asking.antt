-- Opening and reading `log` and `jobs`.
use Rattle.std.specs.Prelude.{ℕ, ◌+◌, Bool, ◌&&◌, not, nat_lt, Option, Some, None, if◌then◌else◌}
use Rattle.ninep_types.specs.declared.message.RBody.{RBody}
use Rattle.fid_table.specs.Tables.{Tables}
use Rattle.wait_queue.specs.Limits.{max_openings}
use Rattle.acme_watch.specs.Laws.{count_of}
use Rattle.acme_watch.specs.Watching.{WatchState, has_opening, read_waits, asked_of, after_ask, log_opened}
use Rattle.acme_watch.specs.Watching.{jobs_file_opened}
use Rattle.acme_watch.specs.declared.types.WatchFile.{WatchFile}
use Rattle.acme_watch.specs.declared.types.WatchFile.TheVariants.{Log, Jobs}
use Rattle.acme_watch.specs.declared.types.WatchRead.{WatchRead}
use Rattle.core_fids.specs.declared.effect.EventChange.{EventChange}
use Rattle.core_fids.specs.declared.effect.EventChange.TheVariants as events
use Rattle.core_fids.specs.declared.refusal.Refusal.{Refusal}
use Rattle.core_fids.specs.declared.refusal.Refusal.TheVariants as refusal
use Rattle.core_events.specs.Asking.{reads_are_full, waits_unless}
use Rattle.core_events.specs.PortAsking.{said_unless}

-- ---- an opening

-- one opening more of the file can be counted
abbrev pub can_open : WatchState → WatchFile → Bool
can_open s file = nat_lt (count_of s.opened file) max_openings

-- an opening more of a file; those of each are numbered from 1, in the order of opening
abbrev pub with_opening : WatchState → WatchFile → WatchState
with_opening s Log = log_opened s (s.opened.log + 1)
with_opening s Jobs = jobs_file_opened s (s.opened.jobs + 1)

-- the files after an opening, where one more can be counted
abbrev pub opened : WatchState → WatchFile → WatchState
opened s file = if can_open s file then with_opening s file else s

-- the files after an opening, if a message opens one
abbrev pub opened_with : WatchState → EventChange → WatchState
opened_with s events.Nothing = s
opened_with s (events.Opens w) = s
opened_with s (events.Joins port) = s
opened_with s (events.Watches file) = opened s file
opened_with s (events.Cancels tag) = s

-- ---- a read

-- A read is of an opening that is there. A connection with as many reads as may wait can't have another one that waits.
abbrev pub read_refusal : Tables → WatchState → WatchRead → Option Refusal
read_refusal tables s read = if not (has_opening s read.file read.asker.opening) then Some refusal.FidIsNotOpen
    else (if read_waits s.log s.jobs read && reads_are_full tables read.asker.conn then
    Some refusal.TooManyWaitingReads else None)

-- the files after a read at this entry, which is refused or not
abbrev pub read_unless : Option Refusal → WatchState → WatchRead → ℕ → WatchState
read_unless (Some refusal) s read at = s
read_unless None s read at = after_ask s read at

-- what is said to the read at once; none where it waits
abbrev pub watch_said : Tables → WatchState → WatchRead → Option RBody
watch_said tables s read = said_unless (read_refusal tables s read) (asked_of s read)

-- the files after a read
abbrev pub watch_read : Tables → WatchState → WatchRead → ℕ → WatchState
watch_read tables s read at = read_unless (read_refusal tables s read) s read at

-- a read of this fid waits where nothing is said to it
abbrev pub tables_read_watch : Tables → WatchState → WatchRead → ℕ → Tables
tables_read_watch tables s read fid =
    waits_unless (watch_said tables s read) tables read.asker.conn read.asker.tag fid
