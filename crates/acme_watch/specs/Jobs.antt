-- The requests as the file `jobs` hands them out, and what each call does.
use Rattle.std.specs.Prelude.{◌+◌, ◌==◌, ℕ, zero, suc, Bool, nat_lt, List, [], ◌∷◌, ◌++◌, length, map}
use Rattle.std.specs.Prelude.{slice_get, Option, Some, None, if◌then◌else◌}
use Rattle.am_text.specs.declared.job.Job.{Job}
use Rattle.wait_queue.specs.WaitState.{WaitState, nothing, after_enlist, after_put, piece_of, after_piece, after_leave}
use Rattle.wait_queue.specs.declared.types.Asker.{Asker}
use Rattle.am_text.specs.Requests.{request_lines}
use Rattle.acme_watch.specs.declared.lines.Told.{Told}
use Rattle.am_text.specs.declared.job.JobLife.{JobLife}
use Rattle.am_text.specs.declared.job.JobLife.TheVariants.{Waiting, Taken, Answered, Lost}
use Rattle.acme_watch.specs.declared.types.AnswerFault.{AnswerFault}
use Rattle.acme_watch.specs.declared.types.AnswerFault.TheVariants as fault

-- How many requests were made, what became of those that don't wait any more, in the order of their numbers, and the
-- queue of those that wait, with the openings and what each has left.
pub record JobsState : Type 0 where
  pub made : ℕ
  pub settled : List JobLife
  pub queue : WaitState

-- no request, and no opening
abbrev pub no_jobs : JobsState
no_jobs = record { made = 0; settled = []; queue = nothing }

-- the life of the request with this number, which begins with 1, where these are settled and so many were made
abbrev pub life_in : List JobLife → ℕ → ℕ → Option JobLife
life_in settled made zero = None
life_in settled made (suc n) =
    if nat_lt n (length settled) then slice_get settled n else (if nat_lt n made then Some Waiting else None)

-- the life of the request with this number
abbrev pub life_of : JobsState → ℕ → Option JobLife
life_of j n = life_in j.settled j.made n

-- an opening more
abbrev pub jobs_opened : JobsState → ℕ → JobsState
jobs_opened j opening = record j { queue = after_enlist j.queue opening }

-- a request more, which waits
abbrev pub with_job : JobsState → Job → JobsState
with_job j job = record j { made = j.made + 1; queue = after_put j.queue (j.made + 1) (request_lines (j.made + 1) job) }

-- the lives after a read was given its piece: the request that it takes, if any, has this one
abbrev pub settled_with : Option ℕ → JobLife → List JobLife → List JobLife
settled_with None life ls = ls
settled_with (Some number) life ls = ls ++ life ∷ []

-- what the answer to a read at this entry leaves
abbrev pub job_given : JobsState → Asker → ℕ → JobsState
job_given j r at = record j {
  settled = settled_with (piece_of j.queue r).taken (Taken r.opening at) j.settled;
  queue = after_piece j.queue r;
}

-- why an answer by this opening to a request with this life is refused, if it is
abbrev pub life_fault : ℕ → Option JobLife → Option AnswerFault
life_fault opening None = Some fault.NoRequest
life_fault opening (Some Waiting) = Some fault.NoRequest
life_fault opening (Some (Taken by at)) = if by == opening then None else Some fault.NoRequest
life_fault opening (Some (Answered by at answer good)) = Some fault.Answered
life_fault opening (Some (Lost by at close)) = Some fault.NoRequest

-- why what is written is refused, if it is
abbrev pub answer_fault : JobsState → ℕ → Option Told → Option AnswerFault
answer_fault j opening None = Some fault.BadAnswer
answer_fault j opening (Some s) = life_fault opening (life_of j s.number)

-- a taken request is answered at this entry
abbrev pub answered_life : ℕ → Bool → JobLife → JobLife
answered_life answer good Waiting = Waiting
answered_life answer good (Taken by at) = Answered by at answer good
answered_life answer good (Answered by at first so) = Answered by at first so
answered_life answer good (Lost by at close) = Lost by at close

-- the life with this number, from 1, changes
abbrev pub with_life : (JobLife → JobLife) → ℕ → List JobLife → List JobLife
with_life f zero ls = ls
with_life f (suc n) [] = []
with_life f (suc zero) (l ∷ ls) = f l ∷ ls
with_life f (suc (suc n)) (l ∷ ls) = l ∷ with_life f (suc n) ls

-- what an answer at this entry leaves
abbrev pub job_answered : JobsState → Option Told → ℕ → JobsState
job_answered j None at = j
job_answered j (Some s) at = record j { settled = with_life (answered_life at s.good) s.number j.settled }

-- what this opening took and didn't answer is lost at this entry
abbrev pub lost_life : ℕ → ℕ → JobLife → JobLife
lost_life opening close Waiting = Waiting
lost_life opening close (Taken by at) = if by == opening then Lost by at close else Taken by at
lost_life opening close (Answered by at answer good) = Answered by at answer good
lost_life opening close (Lost by at first) = Lost by at first

-- without an opening
abbrev pub jobs_left : JobsState → ℕ → ℕ → JobsState
jobs_left j opening at = record j
    { settled = map (lost_life opening at) j.settled; queue = after_leave j.queue opening }
