-- The read that is answered next.
use Rattle.std.proofs.Common.{◌≡◌, true, false, Bool, not, ◌&&◌, List, [], ◌∷◌, find, Some, refl}
use Rattle.acme_watch.specs.declared.types.WatchRead.{WatchRead}
use Rattle.acme_watch.specs.Watching.{WatchState, has_opening, read_waits, can_answer, next_of}

pub found-passes : (p : WatchRead → Bool) (rs : List WatchRead) (r : WatchRead) → find p rs ≡ Some r → p r ≡ true
found-passes p [] r h = cc
found-passes p (x ∷ rs) r h = by (p x) refl (found-passes p rs r)
  where
    by : (b : Bool) → p x ≡ b → (find p rs ≡ Some r → p r ≡ true) → p r ≡ true
    by true e later = let same : Some x ≡ Some r = rw e at h in cc
    by false e later = later (rw e at h)

first_true : (a b : Bool) → (a && not b) ≡ true → a ≡ true
first_true true b h = refl
first_true false b h = h

second_false : (a b : Bool) → (a && not b) ≡ true → b ≡ false
second_false true true h = cc
second_false true false h = refl
second_false false b h = cc

-- its opening is there
pub next-there : (s : WatchState) (r : WatchRead) → next_of s ≡ Some r → has_opening s r.file r.asker.opening ≡ true
next-there s r h =
    first_true (has_opening s r.file r.asker.opening) (read_waits s.log s.jobs r)
    (found-passes (can_answer s.log s.jobs) s.reads r h)

-- and it doesn't have to wait
pub next-ready : (s : WatchState) (r : WatchRead) → next_of s ≡ Some r → read_waits s.log s.jobs r ≡ false
next-ready s r h =
    second_false (has_opening s r.file r.asker.opening) (read_waits s.log s.jobs r)
    (found-passes (can_answer s.log s.jobs) s.reads r h)
