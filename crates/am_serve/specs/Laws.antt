-- A law of the causes for which reading ends.
use Rattle.std.specs.Prelude.{◌≡◌, ◌⊎◌, ℕ, List}
use Rattle.ninep_cut.specs.Cuts.{Stream}
use Rattle.am_journal.specs.declared.ending.Ending.{Ending}
use Rattle.am_journal.specs.declared.ending.Ending.TheVariants as ending
use Rattle.am_journal.specs.declared.event.Event.{Event}
use Rattle.am_serve.specs.Gained.{Rule}
use Rattle.am_serve.specs.Reading.{EndsAfter}

-- a cause that lies in the stream itself
abbrev pub LiesInStream : Ending → Type 0
LiesInStream ending.End = ⊥
LiesInStream ending.Torn = ⊥
LiesInStream ending.ReadFault = ⊥
LiesInStream (ending.Broken what) = Unit {0}
LiesInStream ending.Spent = Unit {0}
LiesInStream ending.Gone = ⊥
LiesInStream ending.NoMemory = ⊥

-- Where such a cause holds, no other does but want of memory.
abbrev pub NextDecides : Type 0
NextDecides =
    (enabled : Rule) (conn : ℕ) (journal : List Event) (given : List (List ℕ)) (stream : Stream) (why other : Ending)
    → LiesInStream why → EndsAfter enabled conn journal given stream why
    → EndsAfter enabled conn journal given stream other
    → (other ≡ why) ⊎ (other ≡ ending.NoMemory)
