-- The read that is answered next.
use Rattle.std.proofs.Common.{◌≡◌, true, false, Bool, not, List, [], ◌∷◌, find, Some, refl}
use Rattle.wait_queue.specs.declared.types.Asker.{Asker}
use Rattle.plumb_ports.specs.PortsState.{PortsState, is_ready, read_waits, next_of}

pub found-passes : (p : Asker → Bool) (rs : List Asker) (r : Asker) → find p rs ≡ Some r → p r ≡ true
found-passes p [] r h = cc
found-passes p (x ∷ rs) r h = by (p x) refl (found-passes p rs r)
  where
    by : (b : Bool) → p x ≡ b → (find p rs ≡ Some r → p r ≡ true) → p r ≡ true
    by true e later = let same : Some x ≡ Some r = rw e at h in cc
    by false e later = later (rw e at h)

not_waits : (b : Bool) → not b ≡ true → b ≡ false
not_waits true h = cc
not_waits false h = refl

-- it doesn't have to wait
pub next-ready : (s : PortsState) (r : Asker) → next_of s ≡ Some r → read_waits s r ≡ false
next-ready s r h = not_waits (read_waits s r) (found-passes (is_ready s.openings) s.reads r h)
