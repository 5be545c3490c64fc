-- What holds of the files between the steps: the answer to each waiting read will have a spelling, no opening and no
-- waiting read has a number beyond the openings ever made, and what was taken and neither answered nor lost was taken
-- by an opening that is there.
use Rattle.std.specs.Prelude.{◌≡◌, true, None, ℕ, List, Bool, ◌&&◌, nat_le}
use Rattle.std.specs.List.{list_all}
use Rattle.am_text.specs.declared.job.Job.{Job}
use Rattle.acme_watch.specs.Watching.{WatchState, next_of, with_line, with_request}
use Rattle.acme_watch.specs.Laws.{count_of, AreNumbered, TakenAreOpen}
use Rattle.acme_watch.specs.declared.types.OpeningCounts.{OpeningCounts}
use Rattle.acme_watch.specs.declared.types.WatchRead.{WatchRead}
use Rattle.core_events.specs.Sound.{is_small}

-- whether a waiting read asks for so little that its answer has a spelling, of an opening that was made
abbrev pub is_proper : OpeningCounts → WatchRead → Bool
is_proper opened r = is_small r.asker && nat_le r.asker.opening (count_of opened r.file)

-- the files as the steps make them
pub record IsWatchSound (s : WatchState) : Type 0 where
  pub proper : list_all (is_proper s.opened) s.reads ≡ true
  pub numbered : AreNumbered s
  pub taken : TakenAreOpen s

-- No waiting read can be answered.
abbrev pub IsWatchIdle : WatchState → Type 0
IsWatchIdle s = next_of s ≡ None

-- ---- what comes of the deeds of a step

-- a line more
abbrev pub LinesKeepSound : Type 0
LinesKeepSound = (s : WatchState) (line : List ℕ) → IsWatchSound s → IsWatchSound (with_line s line)

-- a request more
abbrev pub RequestsKeepSound : Type 0
RequestsKeepSound = (s : WatchState) (job : Job) → IsWatchSound s → IsWatchSound (with_request s job)
