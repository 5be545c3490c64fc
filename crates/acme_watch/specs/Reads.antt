-- The reads that wait on `log` and `jobs`, in the order of asking.
use Rattle.std.specs.Prelude.{◌&&◌, ◌||◌, ℕ, Bool, true, false, List, [], ◌∷◌, not, filter, if◌then◌else◌}
use Rattle.wait_queue.specs.Reads.{is_read, is_on}
use Rattle.acme_watch.specs.declared.types.WatchFile.{WatchFile}
use Rattle.acme_watch.specs.declared.types.WatchFile.TheVariants.{Log, Jobs}
use Rattle.acme_watch.specs.declared.types.WatchRead.{WatchRead}
use Rattle.acme_watch.specs.declared.reads.Held.{Held}

-- whether these are the same file
abbrev pub same_file : WatchFile → WatchFile → Bool
same_file Log Log = true
same_file Log Jobs = false
same_file Jobs Log = false
same_file Jobs Jobs = true

-- whether it is the read with that tag on that connection
abbrev pub is_asked : ℕ → ℕ → WatchRead → Bool
is_asked conn tag r = is_read conn tag r.asker

-- whether it is on that opening of the file
abbrev pub is_of_opening : WatchFile → ℕ → WatchRead → Bool
is_of_opening file opening r = same_file file r.file && is_on opening r.asker

-- all but the first that passes
abbrev pub without_first : (WatchRead → Bool) → List WatchRead → List WatchRead
without_first p [] = []
without_first p (r ∷ rs) = if p r then rs else r ∷ without_first p rs

-- all but those that pass
abbrev pub without_all : (WatchRead → Bool) → List WatchRead → List WatchRead
without_all p rs = filter (λ r. not (p r)) rs

-- ---- what the code shows

-- the read
abbrev pub read_of : Held → WatchRead
read_of w = w.read

-- whether a read waits still
abbrev pub is_here : Held → Bool
is_here w = not w.gone

-- waiting still, and one that passes
abbrev pub is_ready : (WatchRead → Bool) → Held → Bool
is_ready p w = is_here w && p w.read

-- gone, where it passes
abbrev pub mark : (WatchRead → Bool) → Held → Held
mark p w = record { read = w.read; gone = w.gone || p w.read }

-- waiting again
abbrev pub here_again : Held → Held
here_again w = record { read = w.read; gone = false }
