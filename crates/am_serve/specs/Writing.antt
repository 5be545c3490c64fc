-- What a side that writes replies does.
use Rattle.std.specs.Prelude.{◌≡◌, ℕ, ◌-◌, List, [], take, Option}
use Rattle.std.specs.List.{flat_map, AllByRecursion}
use Rattle.am_base.specs.Outside.{told_then, PutsFront}
use Rattle.am_journal.specs.declared.ending.Ending.TheVariants as ending
use Rattle.am_journal.specs.declared.event.Event.{Event}
use Rattle.am_journal.specs.declared.event.Event.TheVariants as event
use Rattle.am_counter.specs.Known.{Known}
use Rattle.am_serve.specs.Gained.{Gains, gained, EndsWith}
use Rattle.am_serve.specs.declared.writing.WriteEnd.{WriteEnd}
use Rattle.am_serve.specs.declared.writing.WriteEnd.TheVariants as end

-- each entry takes the connection's replies
abbrev pub AreTakings : ℕ → List (ℕ × Event) → Type 0
AreTakings conn entries = AllByRecursion (λ x. x.1 ≡ event.Took conn) entries

-- the bytes that an event takes after a journal
abbrev pub bytes_of : (List Event → ℕ → List ℕ) → List Event → Event → List ℕ
bytes_of unsent before (event.Dial c) = []
bytes_of unsent before (event.Msg c msg) = []
bytes_of unsent before (event.Hang c why) = []
bytes_of unsent before (event.Took c) = unsent before c
bytes_of unsent before event.New = []
bytes_of unsent before (event.Key w side text) = []
bytes_of unsent before (event.Sel w range) = []
bytes_of unsent before (event.Exec at) = []
bytes_of unsent before (event.Arg at chord) = []
bytes_of unsent before (event.Look at) = []
bytes_of unsent before (event.File path text) = []
bytes_of unsent before (event.Dir path) = []

-- the bytes that entries of a journal take, each after the entries before it
abbrev pub taken_bytes : (List Event → ℕ → List ℕ) → List Event → List (ℕ × Event) → List ℕ
taken_bytes unsent journal entries = flat_map (λ x. bytes_of unsent (take (x.0 - 1) journal) x.1) entries

-- the entries of a side that stopped so
abbrev pub AreWritten : ℕ → WriteEnd → Known → Known → Type 0
AreWritten conn end.Ended v w = AreTakings conn (gained v w)
AreWritten conn end.Gone v w = EndsWith (AreTakings conn) conn ending.Gone v w
AreWritten conn end.NoMemory v w = EndsWith (AreTakings conn) conn ending.NoMemory v w

-- what a sink got: all the bytes, or, where it failed, a front of them
abbrev pub Gets : WriteEnd → Option (List ℕ) → List ℕ → Option (List ℕ) → Type 0
Gets end.Ended old bytes new = new ≡ told_then old bytes
Gets end.Gone old bytes new = PutsFront old bytes new
Gets end.NoMemory old bytes new = new ≡ told_then old bytes

-- the replies were taken that these entries took, and the sink got their bytes
pub record Wrote (unsent : List Event → ℕ → List ℕ) (conn : ℕ) (v w : Known) (end : WriteEnd)
    (old new : Option (List ℕ)) : Type 0 where
  pub entries : List (ℕ × Event)
  pub gains : Gains v entries w
  pub takings : AreTakings conn entries
  pub gets : Gets end old (taken_bytes unsent w.seen entries) new
