-- Streams of the system, as their callers see them.
use Rattle.std.specs.Prelude.{ℕ, Bool, true, false, None}
use Rattle.am_base.specs.Outside.{BytesTold, bytes_told, one_more}

-- A stream: how often it has failed, and whether it was ended.
pub record StreamLog : Type 0 where
  pub faults : ℕ
  pub is_ended : Bool

-- a stream of which no call was made
abbrev pub new_stream : StreamLog
new_stream = record { faults = 0; is_ended = false }

-- what a stream tells: nothing of its bytes
abbrev pub told_by : StreamLog → BytesTold
told_by s = bytes_told None s.faults s.is_ended

-- a stream after a call that failed
abbrev pub failed_stream : StreamLog → StreamLog
failed_stream s = record s { faults = one_more s.faults }

-- a stream that was ended
abbrev pub ended_stream : StreamLog → StreamLog
ended_stream s = record s { is_ended = true }
