-- What the waiting reads of the code show.
use Rattle.std.specs.Prelude.{◌≡◌, ◌&&◌, ◌||◌, Bool, false, not, List, map}
use Rattle.wait_queue.specs.declared.types.Asker.{Asker}
use Rattle.wait_queue.specs.declared.waiting_list.Waiting.{Waiting}

-- the read
abbrev pub asker_of : Waiting → Asker
asker_of w = w.asker

-- whether a read waits still
abbrev pub is_here : Waiting → Bool
is_here w = not w.gone

-- waiting still, and one that passes
abbrev pub is_ready : (Asker → Bool) → Waiting → Bool
is_ready p w = is_here w && p w.asker

-- gone, where it passes
abbrev pub mark : (Asker → Bool) → Waiting → Waiting
mark p w = record { asker = w.asker; gone = w.gone || p w.asker }

-- waiting again
abbrev pub here_again : Waiting → Waiting
here_again w = record { asker = w.asker; gone = false }

-- none is gone: waiting again changes none
abbrev pub AreHere : List Waiting → Type 0
AreHere ws = map here_again ws ≡ ws
