-- Answers to requests, as they are written to `jobs`.
use Rattle.std.specs.Prelude.{ℕ, List, Option, Some, None, option_map}
use Rattle.acme_watch.specs.Lines.{said_of}
use Rattle.acme_watch.specs.Jobs.{answer_fault}
use Rattle.acme_watch.specs.Watching.{WatchState, answered_by}
use Rattle.acme_watch.specs.declared.types.AnswerFault.{AnswerFault}
use Rattle.acme_watch.specs.declared.types.AnswerFault.TheVariants as fault
use Rattle.core_fids.specs.declared.refusal.Refusal.{Refusal}
use Rattle.core_fids.specs.declared.refusal.Refusal.TheVariants as refusal
use Rattle.core_watch.specs.declared.answering.RequestAnswer.{RequestAnswer}

-- why an answer of these bytes by this opening can't be done, if it can't
abbrev pub fault_of : WatchState → ℕ → List ℕ → Option AnswerFault
fault_of s opening text = answer_fault s.jobs opening (said_of text)

-- the refusal that tells it
abbrev pub refusal_of : AnswerFault → Refusal
refusal_of fault.BadAnswer = refusal.BadAnswer
refusal_of fault.Answered = refusal.RequestAlreadyAnswered
refusal_of fault.NoRequest = refusal.NoSuchRequest

-- why an answer of these bytes by this opening is refused, if it is
abbrev pub answer_refusal : WatchState → ℕ → List ℕ → Option Refusal
answer_refusal s opening text = option_map refusal_of (fault_of s opening text)

-- the files after an answer at this entry, which is refused or not
abbrev pub written_unless : Option AnswerFault → WatchState → List ℕ → ℕ → WatchState
written_unless (Some fault) s text at = s
written_unless None s text at = answered_by s (said_of text) at

-- the files after an answer by this opening
abbrev pub answer_written : WatchState → ℕ → List ℕ → ℕ → WatchState
answer_written s opening text at = written_unless (fault_of s opening text) s text at

-- the files after the answer that a message writes, if it writes one
abbrev pub answered_with : ℕ → WatchState → Option RequestAnswer → WatchState
answered_with at s None = s
answered_with at s (Some a) = answer_written s a.opening a.text at
