-- Calls of a watch, one after another: what they answer, and which lines and requests they bring.
use Rattle.std.specs.Prelude.{◌≡◌, ◌+◌, ℕ, List, [], ◌∷◌, ◌++◌, Option, Some, None, IsTrue, if◌then◌else◌}
use Rattle.am_text.specs.declared.job.Job.{Job}
use Rattle.wait_queue.specs.declared.types.Piece.{Piece}
use Rattle.acme_watch.specs.Lines.{said_of}
use Rattle.acme_watch.specs.Jobs.{answer_fault}
use Rattle.acme_watch.specs.Reads.{is_of_opening}
use Rattle.acme_watch.specs.Watching.{WatchState, has_opening, read_waits, piece_for, after_ask, next_of, after_serve}
use Rattle.acme_watch.specs.Watching.{log_opened, jobs_file_opened, with_line, with_request, answered_by, after_cancel}
use Rattle.acme_watch.specs.Watching.{log_left, jobs_file_left}
use Rattle.acme_watch.specs.declared.types.WatchFile.{WatchFile}
use Rattle.acme_watch.specs.declared.types.WatchFile.TheVariants.{Log}
use Rattle.acme_watch.specs.declared.types.WatchRead.{WatchRead}

-- A call that changes something and isn't refused. A read, a serving, an answer and the end of an opening of `jobs`
-- have the entry at which they are made.
pub data Call : Type 0 where
  OpenLog : ℕ → Call
  OpenJobs : ℕ → Call
  Note : List ℕ → Call
  Put : Job → Call
  Ask : WatchRead → ℕ → Call
  Serve : ℕ → Call
  Answer : ℕ → List ℕ → ℕ → Call
  Cancel : ℕ → ℕ → Call
  LeaveLog : ℕ → Call
  LeaveJobs : ℕ → ℕ → Call

-- A call may be made: an opening gets the next number of its file, a read is on an opening that is there, and an answer
-- isn't refused.
abbrev pub CanCall : WatchState → Call → Type 0
CanCall s (OpenLog opening) = opening ≡ s.opened.log + 1
CanCall s (OpenJobs opening) = opening ≡ s.opened.jobs + 1
CanCall s (Note line) = Unit {0}
CanCall s (Put job) = Unit {0}
CanCall s (Ask r at) = IsTrue (has_opening s r.file r.asker.opening)
CanCall s (Serve at) = Unit {0}
CanCall s (Answer opening bytes at) = answer_fault s.jobs opening (said_of bytes) ≡ None
CanCall s (Cancel conn tag) = Unit {0}
CanCall s (LeaveLog opening) = Unit {0}
CanCall s (LeaveJobs opening at) = Unit {0}

-- what a call leaves
abbrev pub after_call : WatchState → Call → WatchState
after_call s (OpenLog opening) = log_opened s opening
after_call s (OpenJobs opening) = jobs_file_opened s opening
after_call s (Note line) = with_line s line
after_call s (Put job) = with_request s job
after_call s (Ask r at) = after_ask s r at
after_call s (Serve at) = after_serve s at
after_call s (Answer opening bytes at) = answered_by s (said_of bytes) at
after_call s (Cancel conn tag) = after_cancel s conn tag
after_call s (LeaveLog opening) = log_left s opening
after_call s (LeaveJobs opening at) = jobs_file_left s opening at

-- reads that are answered, each with what it is given
abbrev pub Answers : Type 0
Answers = List (WatchRead × Piece)

-- the answer to the read, if there is one
abbrev pub answer_to : Option WatchRead → WatchState → Answers
answer_to None s = []
answer_to (Some r) s = (r, piece_for s r) ∷ []

-- the reads that a call answers
abbrev pub answers_of : WatchState → Call → Answers
answers_of s (OpenLog opening) = []
answers_of s (OpenJobs opening) = []
answers_of s (Note line) = []
answers_of s (Put job) = []
answers_of s (Ask r at) = if read_waits s.log s.jobs r then [] else (r, piece_for s r) ∷ []
answers_of s (Serve at) = answer_to (next_of s) s
answers_of s (Answer opening bytes at) = []
answers_of s (Cancel conn tag) = []
answers_of s (LeaveLog opening) = []
answers_of s (LeaveJobs opening at) = []

-- the line that a call notes for an opening of `log`, if it notes one and the opening is there
abbrev pub lines_to : ℕ → WatchState → Call → List (List ℕ)
lines_to opening s (OpenLog o) = []
lines_to opening s (OpenJobs o) = []
lines_to opening s (Note line) = if has_opening s Log opening then line ∷ [] else []
lines_to opening s (Put job) = []
lines_to opening s (Ask r at) = []
lines_to opening s (Serve at) = []
lines_to opening s (Answer o bytes at) = []
lines_to opening s (Cancel conn tag) = []
lines_to opening s (LeaveLog o) = []
lines_to opening s (LeaveJobs o at) = []

-- the request that a call makes, if it makes one
abbrev pub jobs_of : Call → List Job
jobs_of (OpenLog opening) = []
jobs_of (OpenJobs opening) = []
jobs_of (Note line) = []
jobs_of (Put job) = job ∷ []
jobs_of (Ask r at) = []
jobs_of (Serve at) = []
jobs_of (Answer opening bytes at) = []
jobs_of (Cancel conn tag) = []
jobs_of (LeaveLog opening) = []
jobs_of (LeaveJobs opening at) = []

-- ---- one after another

-- each call may be made where it comes
unfoldable pub CanCallAll : WatchState → List Call → Type 0
CanCallAll s [] = Unit {0}
CanCallAll s (c ∷ cs) = CanCall s c × CanCallAll (after_call s c) cs

-- what calls leave
unfoldable pub after_calls : WatchState → List Call → WatchState
after_calls s [] = s
after_calls s (c ∷ cs) = after_calls (after_call s c) cs

-- the reads that calls answer
unfoldable pub all_answers : WatchState → List Call → Answers
all_answers s [] = []
all_answers s (c ∷ cs) = answers_of s c ++ all_answers (after_call s c) cs

-- the joined bytes of those answers that are on an opening of a file
abbrev pub bytes_to : WatchFile → ℕ → Answers → List ℕ
bytes_to file opening [] = []
bytes_to file opening (answer ∷ answers) =
    (if is_of_opening file opening answer.0 then answer.1.bytes else []) ++ bytes_to file opening answers

-- the lines that calls note for an opening of `log`
unfoldable pub all_lines : ℕ → WatchState → List Call → List (List ℕ)
all_lines opening s [] = []
all_lines opening s (c ∷ cs) = lines_to opening s c ++ all_lines opening (after_call s c) cs

-- the requests that calls make
unfoldable pub all_jobs : List Call → List Job
all_jobs [] = []
all_jobs (c ∷ cs) = jobs_of c ++ all_jobs cs
