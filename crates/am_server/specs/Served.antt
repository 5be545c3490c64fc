-- What became of each slot, by the journal.
use Rattle.std.specs.Prelude.{ℕ, ◌+◌, List, [], ◌∷◌, Option, Some, None}
use Rattle.am_journal.specs.declared.ending.Ending.{Ending}
use Rattle.am_journal.specs.declared.event.Event.{Event}
use Rattle.am_slots.specs.Connection.{endings_of}
use Rattle.am_slots.specs.declared.slot.Slot.{Slot}
use Rattle.am_slots.specs.declared.slot.Slot.TheVariants as slot
use Rattle.am_server.specs.declared.served.Served.{Served}
use Rattle.am_server.specs.declared.served.ServedEnd.{ServedEnd}
use Rattle.am_server.specs.declared.served.ServedEnd.TheVariants as end

-- the first cause, if there is one
abbrev pub first_of : List Ending → Option Ending
first_of [] = None
first_of (why ∷ others) = Some why

-- the cause of the connection's first hang-up
abbrev pub ending_of : List Event → ℕ → Option Ending
ending_of journal conn = first_of (endings_of journal conn)

-- how a slot ended
abbrev pub ended_with : Option Ending → ServedEnd
ended_with None = end.NoMemory
ended_with (Some why) = end.Ended why

module _ {G L S K : Type 0} where
  -- a slot as it is told: its number, its objects, and how it ended
  abbrev pub served_of : List Event → ℕ → Slot G L S K → Served G L S K
  served_of journal n slot.Unbound = record {
    slot = n;
    gate = None;
    link = None;
    reader = None;
    writer = None;
    end =
        end.Bind;
  }
  served_of journal n (slot.Bound g) = record {
    slot = n;
    gate = Some g;
    link = None;
    reader = None;
    writer = None;
    end = end.NoMemory;
  }
  served_of journal n (slot.Unlinked g) = record {
    slot = n;
    gate = Some g;
    link = None;
    reader = None;
    writer = None;
    end = end.Accept;
  }
  served_of journal n (slot.Unhalved g l) = record {
    slot = n;
    gate = Some g;
    link = Some l;
    reader = None;
    writer =
        None;
    end = end.Halve;
  }
  served_of journal n (slot.Undialled x refused) = record {
    slot = n;
    gate = Some x.gate;
    link = Some x.link;
    reader =
        Some x.reader;
    writer = Some x.writer;
    end = end.NoMemory;
  }
  served_of journal n (slot.Served x read wrote) = record {
    slot = n;
    gate = Some x.gate;
    link = Some x.link;
    reader =
        Some x.reader;
    writer = Some x.writer;
    end = ended_with (ending_of journal n);
  }

  -- slots one after another, from this number on
  abbrev pub served_from : List Event → ℕ → List (Slot G L S K) → List (Served G L S K)
  served_from journal n [] = []
  served_from journal n (s ∷ slots) = served_of journal n s ∷ served_from journal (n + 1) slots
