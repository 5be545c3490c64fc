-- The event files of windows: their items and openings.
use Rattle.std.specs.Prelude.{◌≡◌, ◌==◌, ◌||◌, ℕ, Bool, nat_lt, List, [], ◌∷◌, ◌++◌, length, Option, Some, None}
use Rattle.std.specs.Prelude.{if◌then◌else◌}
use Rattle.std.specs.List.{list_any}
use Rattle.am_text.specs.Twice.{Twice}
use Rattle.wait_queue.specs.Carry.{OpenCarry, is_of, without_opening}
use Rattle.wait_queue.specs.WaitState.{WaitState, piece_of, after_piece, has_openings}
use Rattle.wait_queue.specs.declared.types.Asker.{Asker}
use Rattle.win_events.specs.declared.item.Item.{Item}
use Rattle.win_events.specs.declared.item.Life.{Life}
use Rattle.win_events.specs.declared.item.Life.TheVariants.{Taken}
use Rattle.event_book.specs.Lives.{fresh, take_first, all_dropped, written_back, pending_from, views_from}
use Rattle.event_book.specs.declared.lives.Recorded.{Recorded}
use Rattle.am_journal.specs.declared.view.ItemView.{ItemView}

-- all items of a window, and its openings with what each has left
pub record EventFile : Type 0 where
  pub items : List Recorded
  pub openings : List OpenCarry

-- an event file that nobody opened
abbrev pub unopened : EventFile
unopened = record { items = []; openings = [] }

-- the queue of the items that nobody has taken; waiting reads are kept beside, over all windows
abbrev pub queue_of : EventFile → WaitState
queue_of f = record { items = pending_from 1 f.items; openings = f.openings; reads = [] }

-- the queue beside the items is that of the pending ones, in both states
pub record IsQueueOf (items : Twice (List Recorded)) (queue : Twice WaitState) : Type 0 where
  pub present : queue.present ≡ queue_of (record { items = items.present; openings = queue.present.openings })
  pub kept : queue.kept ≡ queue_of (record { items = items.kept; openings = queue.kept.openings })

-- the present state of both
abbrev pub file_in : Twice (List Recorded) → Twice WaitState → EventFile
file_in items queue = record { items = items.present; openings = queue.present.openings }

-- whether an event file is open
abbrev pub has_opening : EventFile → Bool
has_opening f = has_openings (queue_of f)

-- whether it has this opening
abbrev pub is_enlisted : EventFile → ℕ → Bool
is_enlisted f opening = list_any (is_of opening) f.openings

-- with an opening more
abbrev pub enlisted : EventFile → ℕ → EventFile
enlisted f opening = record f { openings = f.openings ++ record { opening = opening; carry = [] } ∷ [] }

-- with an item more
abbrev pub with_item : EventFile → Item → EventFile
with_item f item = record f { items = f.items ++ fresh item ∷ [] }

-- the items after the read was given its piece: the one that it takes, if any, has its life
abbrev pub items_after : Option ℕ → Life → List Recorded → List Recorded
items_after None life es = es
items_after (Some number) life es = take_first life es

-- what the answer to a read at this entry leaves
abbrev pub given : EventFile → Asker → ℕ → EventFile
given f r at = record {
  items = items_after (piece_of (queue_of f) r).taken (Taken r.opening at) f.items;
  openings = (after_piece (queue_of f) r).openings;
}

-- with an item written back at an entry
abbrev pub with_written : EventFile → ℕ → ℕ → EventFile
with_written f number at = record f { items = written_back at number f.items }

-- the last opening that leaves drops the pending items
abbrev pub left_with : List OpenCarry → ℕ → EventFile → EventFile
left_with [] at f = record { items = all_dropped at f.items; openings = [] }
left_with (c ∷ cs) at f = record { items = f.items; openings = c ∷ cs }

-- without an opening; where it was the last, what is pending is dropped
abbrev pub left : EventFile → ℕ → ℕ → EventFile
left f opening at = left_with (without_opening f.openings opening) at f

-- the event file of a window that is deleted
abbrev pub deleted : EventFile → ℕ → EventFile
deleted f at = record { items = all_dropped at f.items; openings = [] }

-- ---- the files of all windows, by window; one without items and openings isn't listed

-- the event file of a window
pub record WindowFile : Type 0 where
  pub window : ℕ
  pub file : EventFile

-- whether an event file has anything
abbrev pub is_used : EventFile → Bool
is_used f = nat_lt 0 (length f.items) || nat_lt 0 (length f.openings)

-- with a window's event file, where it has anything
abbrev pub listed : ℕ → EventFile → List WindowFile → List WindowFile
listed window f fs = if is_used f then record { window = window; file = f } ∷ fs else fs

-- the event file of this window
abbrev pub file_of : List WindowFile → ℕ → EventFile
file_of [] window = unopened
file_of (f ∷ fs) window = if f.window == window then f.file else file_of fs window

-- this one as the event file of the window
abbrev pub with_file : ℕ → EventFile → List WindowFile → List WindowFile
with_file window f [] = listed window f []
with_file window f (g ∷ gs) =
    if nat_lt g.window window then g ∷ with_file window f gs
    else (if g.window == window then listed window f gs else listed window f (g ∷ gs))

-- every item with its life, by window and number
abbrev pub ledger_of : List WindowFile → List ItemView
ledger_of [] = []
ledger_of (f ∷ fs) = views_from f.window 1 f.file.items ++ ledger_of fs
