-- The files `log` and `jobs`, and what each call does to them.
use Rattle.std.specs.Prelude.{◌+◌, ◌&&◌, ℕ, Bool, List, [], ◌∷◌, ◌++◌, not, find, map, Option, Some, None, option_map}
use Rattle.std.specs.Prelude.{if◌then◌else◌}
use Rattle.std.specs.List.{list_any}
use Rattle.am_text.specs.declared.job.Job.{Job}
use Rattle.wait_queue.specs.Carry.{is_of}
use Rattle.wait_queue.specs.WaitState.{WaitState, must_wait, piece_of}
use Rattle.wait_queue.specs.declared.types.Asker.{Asker}
use Rattle.wait_queue.specs.declared.types.Piece.{Piece}
use Rattle.wait_queue.specs.declared.types.Asked.{Asked}
use Rattle.wait_queue.specs.declared.types.Asked.TheVariants.{Now, Waits}
use Rattle.acme_watch.specs.Log.{is_reader, new_reader, reader_of, noted, after_log_read, without_reader}
use Rattle.acme_watch.specs.Jobs.{JobsState, no_jobs, jobs_opened, with_job, job_given, job_answered, jobs_left}
use Rattle.acme_watch.specs.Reads.{is_asked, is_of_opening, without_first, without_all}
use Rattle.acme_watch.specs.declared.lines.Told.{Told}
use Rattle.acme_watch.specs.declared.types.OpeningCounts.{OpeningCounts}
use Rattle.acme_watch.specs.declared.types.WatchFile.{WatchFile}
use Rattle.acme_watch.specs.declared.types.WatchFile.TheVariants.{Log, Jobs}
use Rattle.acme_watch.specs.declared.types.WatchRead.{WatchRead}

-- The openings of `log`, the requests with the openings of `jobs`, the reads that wait on both, in the order of asking,
-- and how many openings of each were ever made.
pub record WatchState : Type 0 where
  pub log : List WaitState
  pub jobs : JobsState
  pub reads : List WatchRead
  pub opened : OpeningCounts

-- nothing yet
abbrev pub watching : WatchState
watching = record { log = []; jobs = no_jobs; reads = []; opened = record { log = 0; jobs = 0 } }

-- whether an opening of a file is there
abbrev pub opening_in : List WaitState → JobsState → WatchFile → ℕ → Bool
opening_in log jobs Log opening = list_any (is_reader opening) log
opening_in log jobs Jobs opening = list_any (is_of opening) jobs.queue.openings

-- the same, of both files
abbrev pub has_opening : WatchState → WatchFile → ℕ → Bool
has_opening s file opening = opening_in s.log s.jobs file opening

-- whether a read of a file has to wait
abbrev pub waits_in : List WaitState → JobsState → WatchFile → Asker → Bool
waits_in log jobs Log r = must_wait (reader_of log r.opening) r
waits_in log jobs Jobs r = must_wait jobs.queue r

-- whether a read has to wait
abbrev pub read_waits : List WaitState → JobsState → WatchRead → Bool
read_waits log jobs r = waits_in log jobs r.file r.asker

-- whether a read can be answered: its opening is there, and it doesn't have to wait
abbrev pub can_answer : List WaitState → JobsState → WatchRead → Bool
can_answer log jobs r = opening_in log jobs r.file r.asker.opening && not (read_waits log jobs r)

-- what a read of a file is given
abbrev pub piece_in : WatchState → WatchFile → Asker → Piece
piece_in s Log r = piece_of (reader_of s.log r.opening) r
piece_in s Jobs r = piece_of s.jobs.queue r

-- what a read is given now
abbrev pub piece_for : WatchState → WatchRead → Piece
piece_for s r = piece_in s r.file r.asker

-- what a piece of a file leaves
abbrev pub given_in : WatchState → WatchFile → Asker → ℕ → WatchState
given_in s Log r at = record s { log = after_log_read s.log r }
given_in s Jobs r at = record s { jobs = job_given s.jobs r at }

-- what the piece of a read leaves
abbrev pub after_answer : WatchState → WatchRead → ℕ → WatchState
after_answer s r at = given_in s r.file r.asker at

-- the answer to a read
abbrev pub asked_of : WatchState → WatchRead → Asked
asked_of s r = if read_waits s.log s.jobs r then Waits else Now (piece_for s r)

-- the read waits, or took its piece
abbrev pub after_ask : WatchState → WatchRead → ℕ → WatchState
after_ask s r at = if read_waits s.log s.jobs r then record s { reads = s.reads ++ r ∷ [] } else after_answer s r at

-- the oldest waiting read over both files that can be answered
abbrev pub next_of : WatchState → Option WatchRead
next_of s = find (can_answer s.log s.jobs) s.reads

-- that read, and what it gets
abbrev pub served_of : WatchState → Option (Asker × Piece)
served_of s = option_map (λ r. (r.asker, piece_for s r)) (next_of s)

-- that read waits no more
abbrev pub without_next : WatchState → WatchState
without_next s = record s { reads = without_first (can_answer s.log s.jobs) s.reads }

-- a read waits no more, and took its piece
abbrev pub after_next : Option WatchRead → WatchState → ℕ → WatchState
after_next None s at = s
after_next (Some r) s at = after_answer (without_next s) r at

-- the oldest read that can be answered was
abbrev pub after_serve : WatchState → ℕ → WatchState
after_serve s at = after_next (next_of s) s at

-- an opening of `log` more
abbrev pub log_opened : WatchState → ℕ → WatchState
log_opened s opening = record s {
  log = s.log ++ new_reader opening ∷ [];
  opened = record s.opened { log = s.opened.log + 1 };
}

-- an opening of `jobs` more
abbrev pub jobs_file_opened : WatchState → ℕ → WatchState
jobs_file_opened s opening = record s {
  jobs = jobs_opened s.jobs opening;
  opened = record s.opened { jobs = s.opened.jobs + 1 };
}

-- a line more, for each opening of `log`
abbrev pub with_line : WatchState → List ℕ → WatchState
with_line s line = record s { log = map (noted line) s.log }

-- a request more
abbrev pub with_request : WatchState → Job → WatchState
with_request s job = record s { jobs = with_job s.jobs job }

-- what an answer to a request leaves
abbrev pub answered_by : WatchState → Option Told → ℕ → WatchState
answered_by s told at = record s { jobs = job_answered s.jobs told at }

-- the read of a tag on a connection waits no more
abbrev pub after_cancel : WatchState → ℕ → ℕ → WatchState
after_cancel s conn tag = record s { reads = without_all (is_asked conn tag) s.reads }

-- without an opening of `log` and its waiting reads
abbrev pub log_left : WatchState → ℕ → WatchState
log_left s opening = record s
    { log = without_reader s.log opening; reads = without_all (is_of_opening Log opening) s.reads }

-- without an opening of `jobs` and its waiting reads; what it took and didn't answer is lost
abbrev pub jobs_file_left : WatchState → ℕ → ℕ → WatchState
jobs_file_left s opening at = record s {
  jobs = jobs_left s.jobs opening at;
  reads = without_all (is_of_opening Jobs opening) s.reads;
}
