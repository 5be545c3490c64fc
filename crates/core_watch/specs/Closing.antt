-- What ends openings of `log` and `jobs` and their waiting reads without a reply of their own.
use Rattle.std.specs.Prelude.{ℕ, Option, Some, None}
use Rattle.std.specs.List.{fold}
use Rattle.fid_table.specs.declared.types.Fid.{Fid}
use Rattle.fid_table.specs.Tables.{Tables, fid_of, fids_of}
use Rattle.acme_watch.specs.Watching.{WatchState, after_cancel, log_left, jobs_file_left}
use Rattle.acme_watch.specs.declared.types.WatchFile.{WatchFile}
use Rattle.acme_watch.specs.declared.types.WatchFile.TheVariants.{Log, Jobs}
use Rattle.core_fids.specs.Fids.{watch_opening}
use Rattle.core_fids.specs.declared.effect.Effect.{Effect}
use Rattle.core_fids.specs.declared.effect.Effect.TheVariants as effect
use Rattle.core_fids.specs.declared.effect.EventChange.{EventChange}
use Rattle.core_fids.specs.declared.effect.EventChange.TheVariants as events
use Rattle.core_fids.specs.declared.effect.WatchOpening.{WatchOpening}

-- without an opening of a file
abbrev pub left_in : ℕ → WatchState → WatchFile → ℕ → WatchState
left_in at s Log opening = log_left s opening
left_in at s Jobs opening = jobs_file_left s opening at

-- An opening closes at this entry, if there is one. What it took of `jobs` and didn't answer is lost.
abbrev pub without_opening : ℕ → WatchState → Option WatchOpening → WatchState
without_opening at s None = s
without_opening at s (Some o) = left_in at s o.file o.opening

-- a fid that is freed closes its opening of `log` or `jobs`
abbrev pub without_fid : ℕ → WatchState → ℕ × Fid → WatchState
without_fid at s f = without_opening at s (watch_opening f.1)

-- the opening of a fid that was looked up by its place
abbrev pub opening_at : Option (ℕ × Fid) → Option WatchOpening
opening_at None = None
opening_at (Some f) = watch_opening f.1

-- all fids of a connection are freed
abbrev pub watch_without_fids : ℕ → WatchState → Tables → ℕ → WatchState
watch_without_fids at s tables conn = fold (without_fid at) s (fids_of tables conn)

-- the opening of a fid of `log` or `jobs`
abbrev pub opening_in : Option Fid → Option WatchOpening
opening_in None = None
opening_in (Some fid) = watch_opening fid

-- the files after an effect: openings go with their fids
abbrev pub watch_freed : ℕ → WatchState → Tables → ℕ → Effect → WatchState
watch_freed at s tables conn effect.Nothing = s
watch_freed at s tables conn (effect.Begins msize) = watch_without_fids at s tables conn
watch_freed at s tables conn (effect.Puts fid value) = s
watch_freed at s tables conn (effect.Frees fid) = without_opening at s (opening_in (fid_of tables conn fid))

-- a flushed read waits no more
abbrev pub watch_cancelled : WatchState → ℕ → EventChange → WatchState
watch_cancelled s conn events.Nothing = s
watch_cancelled s conn (events.Opens w) = s
watch_cancelled s conn (events.Joins port) = s
watch_cancelled s conn (events.Watches file) = s
watch_cancelled s conn (events.Cancels tag) = after_cancel s conn tag
