-- The items of a window, with their lives.
use Rattle.std.specs.Prelude.{ℕ, zero, suc, Bool, true, false, List, [], ◌∷◌, map, slice_get, Option, Some, None}
use Rattle.std.specs.Prelude.{if◌then◌else◌}
use Rattle.win_events.specs.Spelling.{spelling}
use Rattle.win_events.specs.declared.item.Item.{Item}
use Rattle.win_events.specs.declared.item.Life.{Life}
use Rattle.win_events.specs.declared.item.Life.TheVariants.{Pending, Taken, Back, Dropped}
use Rattle.wait_queue.specs.declared.pending.Pending.{Pending as QueueItem}
use Rattle.event_book.specs.declared.lives.Recorded.{Recorded}
use Rattle.am_journal.specs.declared.view.ItemView.{ItemView}

-- whether no read has taken it, and no close has dropped it
abbrev pub is_pending : Life → Bool
is_pending Pending = true
is_pending (Taken opening at) = false
is_pending (Back opening at back) = false
is_pending (Dropped at) = false

-- whether an item is pending
abbrev pub pends : Recorded → Bool
pends e = is_pending e.life

-- whether a read took it, and it wasn't written back
abbrev pub is_taken : Life → Bool
is_taken Pending = false
is_taken (Taken opening at) = true
is_taken (Back opening at back) = false
is_taken (Dropped at) = false

-- whether there is an item, which was taken
abbrev pub has_taken : Option Recorded → Bool
has_taken None = false
has_taken (Some e) = is_taken e.life

-- whether it was written back
abbrev pub is_back : Life → Bool
is_back Pending = false
is_back (Taken opening at) = false
is_back (Back opening at back) = true
is_back (Dropped at) = false

-- an item that comes
abbrev pub fresh : Item → Recorded
fresh item = record { item = item; life = Pending }

-- the first pending item gets this life
abbrev pub take_first : Life → List Recorded → List Recorded
take_first life [] = []
take_first life (e ∷ es) = if pends e then record { item = e.item; life = life } ∷ es else e ∷ take_first life es

-- all pending items are dropped at this entry
abbrev pub drop_life : ℕ → Life → Life
drop_life at Pending = Dropped at
drop_life at (Taken opening taken_at) = Taken opening taken_at
drop_life at (Back opening taken_at back) = Back opening taken_at back
drop_life at (Dropped dropped_at) = Dropped dropped_at

-- dropped at an entry, where it was pending
abbrev pub with_drop : ℕ → Recorded → Recorded
with_drop at e = record { item = e.item; life = drop_life at e.life }

-- each that was pending is dropped
abbrev pub all_dropped : ℕ → List Recorded → List Recorded
all_dropped at es = map (with_drop at) es

-- a taken item is written back at this entry
abbrev pub back_life : ℕ → Life → Life
back_life at Pending = Pending
back_life at (Taken opening taken_at) = Back opening taken_at at
back_life at (Back opening taken_at back) = Back opening taken_at back
back_life at (Dropped dropped_at) = Dropped dropped_at

-- written back at an entry, where it was taken
abbrev pub with_back : ℕ → Recorded → Recorded
with_back at e = record { item = e.item; life = back_life at e.life }

-- the item with this number is written back; items have numbers from 1
abbrev pub written_back : ℕ → ℕ → List Recorded → List Recorded
written_back at zero es = es
written_back at (suc n) [] = []
written_back at (suc zero) (e ∷ es) = with_back at e ∷ es
written_back at (suc (suc n)) (e ∷ es) = e ∷ written_back at (suc n) es

-- the member with this number, from 1
module _ {A : Type 0} where
  -- the one of this number, from 1
  abbrev pub numbered : List A → ℕ → Option A
  numbered xs zero = None
  numbered xs (suc n) = slice_get xs n

-- the pending items as a queue has them, with numbers from this one on
abbrev pub pending_from : ℕ → List Recorded → List QueueItem
pending_from n [] = []
pending_from n (e ∷ es) =
    if pends e then record { number = n; bytes = spelling e.item } ∷ pending_from (suc n) es else pending_from (suc n)
    es

-- the items as a report tells them, with numbers from this one on
abbrev pub views_from : ℕ → ℕ → List Recorded → List ItemView
views_from window n [] = []
views_from window n (e ∷ es) =
    record { window = window; number = n; life = e.life; spelled = spelling e.item } ∷ views_from window (suc n) es
