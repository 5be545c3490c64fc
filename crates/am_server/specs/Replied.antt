-- Which sinks got all replies.
use Rattle.std.specs.Prelude.{◌≡◌, ◌≢◌, ℕ, List, Some}
use Rattle.am_base.specs.Outside.{AreTold}
use Rattle.am_journal.specs.declared.ending.Ending.{Ending}
use Rattle.am_journal.specs.declared.ending.Ending.TheVariants as ending
use Rattle.am_journal.specs.declared.event.Journal.{Journal}
use Rattle.core_laws.specs.Replies.{replies}
use Rattle.am_slots.specs.Slots.{Outside}
use Rattle.am_server.specs.declared.served.Served.{Served}
use Rattle.am_server.specs.declared.served.ServedEnd.TheVariants as served

module _ {G L S K : Type 0} where
  -- Where the connection didn't end for want of memory, and its sink has not failed, that holds all replies that the
  -- journal makes to it.
  abbrev pub GotAll : Outside G L S K → Journal → Served G L S K → Type 0
  GotAll m journal s =
      (why : Ending) (sink : K) → s.end ≡ served.Ended why → why ≢ ending.NoMemory → s.writer ≡ Some sink
      → (m.writer sink).faults ≡ 0
      → AreTold (m.writer sink).bytes (replies journal s.slot)
