-- What holds of lines, requests and openings, whatever is called.
use Rattle.std.specs.Prelude.{◌≡◌, ◌↔◌, ◌+◌, ◌<◌, ◌≤◌, ◌^◌, ◌==◌, ℕ, Bool, true, false, List, [], ◌∷◌, ◌++◌, length}
use Rattle.std.specs.Prelude.{drop, map, Option, Some, None, IsTrue, codes, if◌then◌else◌}
use Rattle.std.specs.Fmt.{decimal}
use Rattle.std.specs.List.{list_all, concat}
use Rattle.am_text.specs.declared.job.Job.{Job}
use Rattle.wait_queue.specs.Carry.{carry_of}
use Rattle.wait_queue.specs.WaitState.{WaitState, piece_of}
use Rattle.wait_queue.specs.declared.pending.Pending.{Pending}
use Rattle.wait_queue.specs.declared.types.Asker.{Asker}
use Rattle.am_text.specs.Requests.{request_lines}
use Rattle.acme_watch.specs.Lines.{said_of}
use Rattle.acme_watch.specs.Log.{reader_of}
use Rattle.acme_watch.specs.Jobs.{JobsState, no_jobs, life_of, job_given, answer_fault, job_answered}
use Rattle.acme_watch.specs.Watching.{WatchState, watching, has_opening}
use Rattle.acme_watch.specs.Calls.{Call, CanCallAll, after_calls, all_answers, bytes_to, all_lines, all_jobs}
use Rattle.acme_watch.specs.declared.lines.Told.{Told}
use Rattle.acme_watch.specs.declared.types.AnswerFault.TheVariants.{Answered as WasAnswered}
use Rattle.am_text.specs.declared.job.JobLife.{JobLife}
use Rattle.am_text.specs.declared.job.JobLife.TheVariants.{Waiting, Taken, Answered, Lost}
use Rattle.acme_watch.specs.declared.types.OpeningCounts.{OpeningCounts}
use Rattle.acme_watch.specs.declared.types.WatchFile.{WatchFile}
use Rattle.acme_watch.specs.declared.types.WatchFile.TheVariants.{Log, Jobs}

-- ---- openings

-- how many openings of a file were ever made
abbrev pub count_of : OpeningCounts → WatchFile → ℕ
count_of counts Log = counts.log
count_of counts Jobs = counts.jobs

-- whether a queue has one opening
abbrev pub is_single : WaitState → Bool
is_single w = length w.openings == 1

-- no opening that is there has a number beyond those ever made of its file, and each of `log` has a queue of its own
pub record AreNumbered (s : WatchState) : Type 0 where
  pub within : (file : WatchFile) (opening : ℕ) → IsTrue (has_opening s file opening)
      → opening ≤ count_of s.opened file
  pub single : list_all is_single s.log ≡ true

-- so it is at the beginning, and after any calls
pub record OpeningsAreNumbered : Type 0 where
  pub begins : AreNumbered watching
  pub stays : (s : WatchState) (cs : List Call) → AreNumbered s → CanCallAll s cs → AreNumbered (after_calls s cs)

-- ---- lines

-- what is still to come for the opening of a queue: what it has left, and then its lines
abbrev pub owed_in : WaitState → ℕ → List ℕ
owed_in w opening = carry_of w.openings opening ++ concat (map (λ (line : Pending). line.bytes) w.items)

-- the bytes that an opening of `log` has yet to get
abbrev pub owed : WatchState → ℕ → List ℕ
owed s opening = owed_in (reader_of s.log opening) opening

-- What an opening of `log` was given is a front of these lines, in order, each once. While it is there, what is missing
-- is what it has left with the lines that wait for it. Before it opens nothing is.
pub record GetsItsLines (given : List ℕ) (lines : List (List ℕ)) (s : WatchState) (opening : ℕ) : Type 0 where
  pub missing : List ℕ
  pub joined : given ++ missing ≡ concat lines
  pub there : IsTrue (has_opening s Log opening) → missing ≡ owed s opening
  pub before : s.opened.log < opening → missing ≡ []

-- so it stays with the lines that are noted while it is there, whatever is called
abbrev pub GetsEachLine : Type 0
GetsEachLine =
    (s : WatchState) (cs : List Call) (opening : ℕ) (given : List ℕ) (lines : List (List ℕ)) → AreNumbered s →
    CanCallAll s cs → GetsItsLines given lines s opening →
    GetsItsLines (given ++ bytes_to Log opening (all_answers s cs)) (lines ++ all_lines opening s cs)
    (after_calls s cs) opening

-- ---- requests

-- requests as a queue has them, with numbers from this one on
abbrev pub items_from : ℕ → List Job → List Pending
items_from n [] = []
items_from n (job ∷ jobs) = record { number = n; bytes = request_lines n job } ∷ items_from (n + 1) jobs

-- whether a request doesn't wait any more
abbrev pub is_settled : JobLife → Bool
is_settled Waiting = false
is_settled (Taken opening at) = true
is_settled (Answered opening at answer good) = true
is_settled (Lost opening at close) = true

-- These requests were made: the last of them wait, each with its number and its two lines, and no other does.
pub record AreJobs (jobs : List Job) (j : JobsState) : Type 0 where
  pub made : j.made ≡ length jobs
  pub within : length j.settled ≤ length jobs
  pub waiting : j.queue.items ≡ items_from (length j.settled + 1) (drop (length j.settled) jobs)
  pub settled : list_all is_settled j.settled ≡ true

-- so it is at the beginning, and after any calls with the requests that they make
pub record StayInOrder : Type 0 where
  pub begins : AreJobs [] no_jobs
  pub stays : (jobs : List Job) (s : WatchState) (cs : List Call) → AreJobs jobs s.jobs
      → AreJobs (jobs ++ all_jobs cs) (after_calls s cs).jobs

-- along the numbers the requests that wait are a suffix
abbrev pub WaitingAreLast : Type 0
WaitingAreLast =
    (jobs : List Job) (j : JobsState) → AreJobs jobs j → (n : ℕ) →
    (life_of j n ≡ Some Waiting) ↔ ((length j.settled < n) × (n ≤ length jobs))

-- what a read takes is the first request that waits; it is then taken by the read's opening at this entry
abbrev pub TakesTheFirst : Type 0
TakesTheFirst =
    (jobs : List Job) (j : JobsState) → AreJobs jobs j → (r : Asker) (at n : ℕ) →
    (piece_of j.queue r).taken ≡ Some n →
    (n ≡ length j.settled + 1) × (life_of j n ≡ Some Waiting)
    × (life_of (job_given j r at) n ≡ Some (Taken r.opening at))

-- ---- what openings of `jobs` get

-- whether a request was taken by this opening
abbrev pub is_taken_by : ℕ → JobLife → Bool
is_taken_by opening Waiting = false
is_taken_by opening (Taken by at) = by == opening
is_taken_by opening (Answered by at answer good) = by == opening
is_taken_by opening (Lost by at close) = by == opening

-- the two lines of each request that this opening took, in order, where the first of these lives has this number
abbrev pub lines_taken : ℕ → ℕ → List JobLife → List Job → List (List ℕ)
lines_taken opening n [] jobs = []
lines_taken opening n (life ∷ lives) [] = []
lines_taken opening n (life ∷ lives) (job ∷ jobs) =
    (if is_taken_by opening life then request_lines n job ∷ [] else []) ++ lines_taken opening (n + 1) lives jobs

-- What an opening of `jobs` was given is a front of the two lines of the requests that it took, in order, each once.
-- While it is there, what is missing is what it has left. Before it opens nothing is.
pub record GetsItsRequests (given : List ℕ) (jobs : List Job) (s : WatchState) (opening : ℕ) : Type 0 where
  pub missing : List ℕ
  pub joined : given ++ missing ≡ concat (lines_taken opening 1 s.jobs.settled jobs)
  pub there : IsTrue (has_opening s Jobs opening) → missing ≡ carry_of s.jobs.queue.openings opening
  pub before : s.opened.jobs < opening → missing ≡ []

-- so it stays, whatever is called
abbrev pub GetsWhatItTook : Type 0
GetsWhatItTook =
    (jobs : List Job) (s : WatchState) (cs : List Call) (opening : ℕ) (given : List ℕ) → AreJobs jobs s.jobs →
    AreNumbered s → CanCallAll s cs → GetsItsRequests given jobs s opening →
    GetsItsRequests (given ++ bytes_to Jobs opening (all_answers s cs)) (jobs ++ all_jobs cs)
    (after_calls s cs) opening

-- ---- lives

-- by which opening and at which entry a request was taken
abbrev pub taker : JobLife → Option (ℕ × ℕ)
taker Waiting = None
taker (Taken opening at) = Some (opening, at)
taker (Answered opening at answer good) = Some (opening, at)
taker (Lost opening at close) = Some (opening, at)

-- A life goes on: a request that was taken stays taken by that opening at that entry, and one that was answered or lost
-- stays so.
abbrev pub GoesOn : JobLife → JobLife → Type 0
GoesOn Waiting later = Unit {0}
GoesOn (Taken opening at) later = taker later ≡ Some (opening, at)
GoesOn (Answered opening at answer good) later = later ≡ Answered opening at answer good
GoesOn (Lost opening at close) later = later ≡ Lost opening at close

-- there is a life, to which this one went on
pub record HasGoneOn (life : JobLife) (later : Option JobLife) : Type 0 where
  pub to : JobLife
  pub is : later ≡ Some to
  pub goes : GoesOn life to

-- What was taken and neither answered nor lost was taken by an opening that is there.
abbrev pub TakenAreOpen : WatchState → Type 0
TakenAreOpen s = (n opening at : ℕ) → life_of s.jobs n ≡ Some (Taken opening at) → IsTrue (has_opening s Jobs opening)

-- so it is at the beginning, and after any calls, which no life goes back by
pub record LivesGoOn : Type 0 where
  pub begins : TakenAreOpen watching
  pub taken : (s : WatchState) (cs : List Call) → TakenAreOpen s → CanCallAll s cs → TakenAreOpen (after_calls s cs)
  pub goes : (s : WatchState) (cs : List Call) (n : ℕ) (life : JobLife) → life_of s.jobs n ≡ Some life
      → HasGoneOn life (life_of (after_calls s cs).jobs n)

-- ---- answers

-- What an answer by an opening tells at an entry: the request was taken by this opening and is answered now, and a
-- second answer is refused.
pub record IsAnsweredAt (j : JobsState) (opening entry : ℕ) (told : Told) : Type 0 where
  pub at : ℕ
  pub was : life_of j told.number ≡ Some (Taken opening at)
  pub is : life_of (job_answered j (Some told) entry) told.number ≡ Some (Answered opening at entry told.good)
  pub once : (other : ℕ) (again : Told) → again.number ≡ told.number
      → answer_fault (job_answered j (Some told) entry) other (Some again) ≡ Some WasAnswered

-- an answer that isn't refused is one to a request that this opening took, which wasn't answered
abbrev pub AnswersWhatItTook : Type 0
AnswersWhatItTook =
    (j : JobsState) (opening entry : ℕ) (told : Told) → answer_fault j opening (Some told) ≡ None →
    IsAnsweredAt j opening entry told

-- the bytes of an answer
abbrev pub told_text : Told → List ℕ
told_text t = decimal t.number ++ (if t.good then codes " ok\n" else codes " fail\n")

-- an answer is read as what it tells
abbrev pub ReadsAgain : Type 0
ReadsAgain = (told : Told) → told.number < 2 ^ 64 → said_of (told_text told) ≡ Some told

-- and nothing else is read
abbrev pub ReadsOnly : Type 0
ReadsOnly = (bytes : List ℕ) (told : Told) → said_of bytes ≡ Some told → (told.number < 2 ^ 64)
    × (bytes ≡ told_text told)
