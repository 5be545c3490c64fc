-- A seat that keeps its turn from one call to another.
use Rattle.std.specs.Prelude.{◌≡◌, true, false, Option, Some, None}
use Rattle.std.proofs.Props.{props}
use Rattle.am_journal.specs.declared.event.Event.{Event}
use Rattle.turn_lock.specs.declared.turn.Stay.{Stay}
use Rattle.turn_lock.specs.declared.view.View.{View}
use Rattle.turn_lock.specs.Words.{value_aside}
use Rattle.am_desk.specs.declared.settled.Settled.{Settled}
use Rattle.am_desk.specs.Journals.{entries_of, number_of}

-- a seat with an editor aside has the turn and its number, and has seen just its journal; another has no turn
abbrev pub Stays : Option (Stay Settled) → View Event → Type 0
Stays None v = v.turn ≡ false
Stays (Some stay) v = (v.turn ≡ true) × (entries_of (value_aside stay) ≡ v.seen)
    × (number_of (value_aside stay) ≡ v.number)

-- this fact has one proof, so it can be kept beside a seat
pub stays-prop : (stay : Option (Stay Settled)) (v : View Event) → IsProp (Stays stay v)
stays-prop None v = Prim.hlevel props
stays-prop (Some stay) v = Prim.hlevel props
