-- A queue's items, openings and waiting reads, and what each call does to them.
use Rattle.std.specs.Prelude.{◌==◌, ◌&&◌, ℕ, Bool, List, [], ◌∷◌, ◌++◌, not, nat_lt, length, take, drop, find, map}
use Rattle.std.specs.Prelude.{Option, Some, None, option_map, IsTrue, if◌then◌else◌}
use Rattle.std.specs.List.{list_any}
use Rattle.wait_queue.specs.Carry.{OpenCarry, carry_of, set_carry, without_opening, is_of, emptied}
use Rattle.wait_queue.specs.Reads.{can_answer, without_first, without_read, without_reads_on}
use Rattle.wait_queue.specs.declared.pending.Pending.{Pending}
use Rattle.wait_queue.specs.declared.types.Asker.{Asker}
use Rattle.wait_queue.specs.declared.types.Piece.{Piece}
use Rattle.wait_queue.specs.declared.types.Asked.{Asked}
use Rattle.wait_queue.specs.declared.types.Asked.TheVariants.{Now, Waits}

-- a queue: the items, the openings with what each has left, and the reads that wait
pub record WaitState : Type 0 where
  pub items : List Pending
  pub openings : List OpenCarry
  pub reads : List Asker

-- a new queue
abbrev pub nothing : WaitState
nothing = record { items = []; openings = []; reads = [] }

-- an opening is enlisted
abbrev pub IsEnlisted : WaitState → ℕ → Type 0
IsEnlisted w opening = IsTrue (list_any (is_of opening) w.openings)

-- whether any opening is enlisted
abbrev pub has_openings : WaitState → Bool
has_openings w = nat_lt 0 (length w.openings)

-- an opening more, with nothing left
abbrev pub after_enlist : WaitState → ℕ → WaitState
after_enlist w opening = record w { openings = w.openings ++ record { opening = opening; carry = [] } ∷ [] }

-- an item more
abbrev pub after_put : WaitState → ℕ → List ℕ → WaitState
after_put w number bytes = record w { items = w.items ++ record { number = number; bytes = bytes } ∷ [] }

-- whether an item is there
abbrev pub any_item : WaitState → Bool
any_item w = nat_lt 0 (length w.items)

-- whether a read has to wait: it asks for bytes, and neither a carry nor an item is there
abbrev pub must_wait : WaitState → Asker → Bool
must_wait w r = not (r.count == 0) && not (can_answer (any_item w) w.openings r)

-- what a read of this many bytes gets of a carry, else of the first item
abbrev pub piece_from : List ℕ → List Pending → ℕ → Piece
piece_from (b ∷ bs) items count = record { bytes = take count (b ∷ bs); taken = None }
piece_from [] (item ∷ items) count = record { bytes = take count item.bytes; taken = Some item.number }
piece_from [] [] count = record { bytes = []; taken = None }

-- what a read gets now
abbrev pub piece_of : WaitState → Asker → Piece
piece_of w r =
    if r.count == 0 then record { bytes = []; taken = None } else piece_from (carry_of w.openings r.opening) w.items
    r.count

-- what a piece of a carry, else of the first item, leaves
abbrev pub after_from : List ℕ → List Pending → WaitState → Asker → WaitState
after_from (b ∷ bs) items w r = record w { openings = set_carry w.openings r.opening (drop r.count (b ∷ bs)) }
after_from [] (item ∷ items) w r =
    record w { items = items; openings = set_carry w.openings r.opening (drop r.count item.bytes) }
after_from [] [] w r = w

-- what that piece leaves
abbrev pub after_piece : WaitState → Asker → WaitState
after_piece w r = if r.count == 0 then w else after_from (carry_of w.openings r.opening) w.items w r

-- the answer to a read
abbrev pub asked_of : WaitState → Asker → Asked
asked_of w r = if must_wait w r then Waits else Now (piece_of w r)

-- the read waits, or took its piece
abbrev pub after_ask : WaitState → Asker → WaitState
after_ask w r = if must_wait w r then record w { reads = w.reads ++ r ∷ [] } else after_piece w r

-- the oldest read that can be answered
abbrev pub next_of : WaitState → Option Asker
next_of w = find (can_answer (any_item w) w.openings) w.reads

-- the oldest read that can be answered, and what it gets
abbrev pub served_of : WaitState → Option (Asker × Piece)
served_of w = option_map (λ r. (r, piece_of w r)) (next_of w)

-- that read waits no more
abbrev pub without_next : WaitState → WaitState
without_next w = record w { reads = without_first (can_answer (any_item w) w.openings) w.reads }

-- a read waits no more, and took its piece
abbrev pub after_answer : Option Asker → WaitState → WaitState
after_answer None w = w
after_answer (Some r) w = after_piece (without_next w) r

-- the oldest read that can be answered was
abbrev pub after_serve : WaitState → WaitState
after_serve w = after_answer (next_of w) w

-- the read of a tag on a connection waits no more
abbrev pub after_cancel : WaitState → ℕ → ℕ → WaitState
after_cancel w conn tag = record w { reads = without_read w.reads conn tag }

-- an opening goes, with its reads
abbrev pub after_leave : WaitState → ℕ → WaitState
after_leave w opening = record w {
  openings = without_opening w.openings opening;
  reads = without_reads_on w.reads
      opening;
}

-- the openings stay, with nothing left
abbrev pub after_close : WaitState → WaitState
after_close w = record { items = []; openings = map emptied w.openings; reads = [] }
