-- What a call does to the requests and to the openings of `jobs`.
use Rattle.std.proofs.Common.{◌≡◌, ◌&&◌, ℕ, ◌+◌, true, false, cond, List, [], ◌∷◌, ◌++◌, Option, Some, None, refl, ap}
use Rattle.std.proofs.Common.{append-nil}
use Rattle.std.specs.List.{list_any}
use Rattle.am_text.specs.declared.job.Job.{Job}
use Rattle.wait_queue.specs.Carry.{is_of}
use Rattle.wait_queue.specs.Reads.{is_on}
use Rattle.wait_queue.specs.WaitState.{piece_of}
use Rattle.wait_queue.specs.declared.types.Asker.{Asker}
use Rattle.acme_watch.specs.Lines.{said_of}
use Rattle.acme_watch.specs.Jobs.{JobsState, jobs_opened, with_job, job_given, job_answered, jobs_left}
use Rattle.acme_watch.specs.Reads.{same_file}
use Rattle.acme_watch.specs.Watching.{WatchState, has_opening, read_waits, piece_in, given_in, after_answer, next_of}
use Rattle.acme_watch.specs.Watching.{after_next, without_next}
use Rattle.acme_watch.specs.Calls.{Call, OpenLog, OpenJobs, Note, Put, Ask, Serve, Answer, Cancel, LeaveLog, LeaveJobs}
use Rattle.acme_watch.specs.Calls.{CanCall, after_call, jobs_of, answer_to, answers_of, bytes_to}
use Rattle.acme_watch.specs.declared.lines.Told.{Told}
use Rattle.acme_watch.specs.declared.types.WatchFile.{WatchFile}
use Rattle.acme_watch.specs.declared.types.WatchFile.TheVariants.{Log, Jobs}
use Rattle.acme_watch.specs.declared.types.WatchRead.{WatchRead}
use Rattle.acme_watch.proofs.ServeLemmas.{next-there}

pub data Move : Type 0 where
  Stays : Move
  Opens : ℕ → Move
  Puts : Job → Move
  Reads : Asker → ℕ → Move
  Tells : Option Told → ℕ → Move
  Leaves : ℕ → ℕ → Move

abbrev pub moved : JobsState → Move → JobsState
moved j Stays = j
moved j (Opens o) = jobs_opened j o
moved j (Puts job) = with_job j job
moved j (Reads r at) = job_given j r at
moved j (Tells told at) = job_answered j told at
moved j (Leaves o at) = jobs_left j o at

abbrev pub count_moved : ℕ → Move → ℕ
count_moved n Stays = n
count_moved n (Opens o) = n + 1
count_moved n (Puts job) = n
count_moved n (Reads r at) = n
count_moved n (Tells told at) = n
count_moved n (Leaves o at) = n

abbrev pub CanMove : JobsState → ℕ → Move → Type 0
CanMove j n Stays = Unit {0}
CanMove j n (Opens o) = o ≡ n + 1
CanMove j n (Puts job) = Unit {0}
CanMove j n (Reads r at) = list_any (is_of r.opening) j.queue.openings ≡ true
CanMove j n (Tells told at) = Unit {0}
CanMove j n (Leaves o at) = Unit {0}

abbrev pub puts_of : Move → List Job
puts_of Stays = []
puts_of (Opens o) = []
puts_of (Puts job) = job ∷ []
puts_of (Reads r at) = []
puts_of (Tells told at) = []
puts_of (Leaves o at) = []

-- the bytes that an opening is given
abbrev pub given_of : JobsState → Move → ℕ → List ℕ
given_of j Stays x = []
given_of j (Opens o) x = []
given_of j (Puts job) x = []
given_of j (Reads r at) x = cond (is_on x r) (piece_of j.queue r).bytes []
given_of j (Tells told at) x = []
given_of j (Leaves o at) x = []

-- it can be made where the call can
pub record Moves (can_call : Type 0) (s t : WatchState) (jobs : List Job) (bytes : ℕ → List ℕ) : Type 0 where
  pub move : Move
  pub can : can_call → CanMove s.jobs s.opened.jobs move
  pub is : t.jobs ≡ moved s.jobs move
  pub count : t.opened.jobs ≡ count_moved s.opened.jobs move
  pub puts : jobs ≡ puts_of move
  pub given : (x : ℕ) → bytes x ≡ given_of s.jobs move x

stays-moves : (can_call : Type 0) (s t : WatchState) → t.jobs ≡ s.jobs → t.opened.jobs ≡ s.opened.jobs
    → Moves can_call s t [] (λ _. [])
stays-moves can_call s t j n = record {
  move = Stays;
  can = λ _. tt;
  is = j;
  count = n;
  puts = refl;
  given = λ x. refl;
}

read-moves : (can_call : Type 0) (s u : WatchState) (file : WatchFile) (r : Asker) (at : ℕ) → u.jobs ≡ s.jobs
    → u.opened.jobs ≡ s.opened.jobs → (can_call → has_opening s file r.opening ≡ true)
    → Moves can_call s (given_in u file r at) []
    (λ x. cond (same_file Jobs file && is_on x r) (piece_in s file r).bytes [] ++ [])
read-moves can_call s u Log r at j n h = stays-moves can_call s (given_in u Log r at) j n
read-moves can_call s u Jobs r at j n h = record {
  move = Reads r at;
  can = h;
  is = ap (λ k. job_given k r at) j;
  count = n;
  puts = refl;
  given = λ x. append-nil _;
}

next-moves : (s : WatchState) (found : Option WatchRead) (at : ℕ) → next_of s ≡ found
    → Moves (Unit {0}) s (after_next found s at) [] (λ x. bytes_to Jobs x (answer_to found s))
next-moves s None at e = stays-moves (Unit {0}) s s refl refl
next-moves s (Some r) at e =
    read-moves (Unit {0}) s (without_next s) r.file r.asker at refl refl (λ _. next-there s r e)

pub call-moves : (s : WatchState) (c : Call)
    → Moves (CanCall s c) s (after_call s c) (jobs_of c) (λ x. bytes_to Jobs x (answers_of s c))
call-moves s (OpenLog o) = stays-moves _ s _ refl refl
call-moves s (OpenJobs o) = record {
  move = Opens o;
  can = λ a. a;
  is = refl;
  count = refl;
  puts = refl;
  given = λ x. refl;
}
call-moves s (Note line) = stays-moves _ s _ refl refl
call-moves s (Put job) = record {
  move = Puts job;
  can = λ _. tt;
  is = refl;
  count = refl;
  puts = refl;
  given = λ x. refl;
}
call-moves s (Ask r at) =
    elim (read_waits s.log s.jobs r) as (λ b. Moves (CanCall s (Ask r at)) s
    (cond b (record s { reads = s.reads ++ r ∷ [] }) (after_answer s r at)) []
    (λ x. bytes_to Jobs x (cond b [] ((r, piece_in s r.file r.asker) ∷ [])))) [
      | true ↦ stays-moves _ s _ refl refl
      | false ↦ read-moves (CanCall s (Ask r at)) s s r.file r.asker at refl refl (λ a. a)
    ]
call-moves s (Serve at) = next-moves s (next_of s) at refl
call-moves s (Answer o bytes at) = record {
  move = Tells (said_of bytes) at;
  can = λ _. tt;
  is = refl;
  count = refl;
  puts = refl;
  given = λ x. refl;
}
call-moves s (Cancel conn tag) = stays-moves _ s _ refl refl
call-moves s (LeaveLog o) = stays-moves _ s _ refl refl
call-moves s (LeaveJobs o at) = record {
  move = Leaves o at;
  can = λ _. tt;
  is = refl;
  count = refl;
  puts = refl;
  given = λ x. refl;
}
