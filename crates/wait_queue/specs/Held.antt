-- Reads held in a slab, in the order of a list of places.
use Rattle.std.specs.Prelude.{◌≡◌, ◌≢◌, ℕ, Bool, false, not, List, [], ◌∷◌, unwrap_or, IsSome}
use Rattle.slab.specs.Slab.{Slab, get}
use Rattle.wait_queue.specs.declared.types.Asker.{Asker}
use Rattle.wait_queue.specs.declared.waiting_list.Waiting.{Waiting}
use Rattle.wait_queue.specs.declared.waiting_list.Place.{Place}

-- no read
abbrev pub no_asker : Asker
no_asker = record { conn = 0; tag = 0; opening = 0; count = 0 }

-- no read that waits
abbrev pub no_waiting : Waiting
no_waiting = record { asker = no_asker; gone = false }

-- the read that is held at a place
abbrev pub waiting_at : Slab Asker → Place → Waiting
waiting_at s p = record { asker = unwrap_or (get s p.key) no_asker; gone = p.gone }

-- whether the read at a place waits still
abbrev pub is_kept : Place → Bool
is_kept p = not p.gone

-- none of the places has this key
abbrev pub NotIn : ℕ → List Place → Type 0
NotIn key [] = Unit {0}
NotIn key (p ∷ ps) = (p.key ≢ key) × NotIn key ps

-- each place has a read under a key of its own
abbrev pub AreHeld : Slab Asker → List Place → Type 0
AreHeld s [] = Unit {0}
AreHeld s (p ∷ ps) = IsSome (get s p.key) × NotIn p.key ps × AreHeld s ps

-- both slabs have the same reads at these places
abbrev pub SameOn : Slab Asker → Slab Asker → List Place → Type 0
SameOn s t [] = Unit {0}
SameOn s t (p ∷ ps) = (get s p.key ≡ get t p.key) × SameOn s t ps
