-- What a book holds, and what each call does to it.
use Rattle.std.specs.Prelude.{◌==◌, ◌+◌, ℕ, Bool, not, List, [], ◌∷◌, ◌++◌, length, filter, find, Option, Some, None}
use Rattle.std.specs.Prelude.{option_map, unwrap_or, Result, IsTrue, if◌then◌else◌}
use Rattle.wait_queue.specs.Reads.{without_first, without_read, without_reads_on}
use Rattle.wait_queue.specs.WaitState.{must_wait, piece_of}
use Rattle.wait_queue.specs.declared.types.Asker.{Asker}
use Rattle.wait_queue.specs.declared.types.Piece.{Piece}
use Rattle.wait_queue.specs.declared.types.Asked.{Asked}
use Rattle.wait_queue.specs.declared.types.Asked.TheVariants.{Now, Waits}
use Rattle.win_events.specs.declared.item.Item.{Item}
use Rattle.win_events.specs.declared.item.BackMsg.{BackMsg}
use Rattle.event_book.specs.Lives.{has_taken, numbered}
use Rattle.event_book.specs.Finding.{found_in}
use Rattle.event_book.specs.WindowFiles.{EventFile, WindowFile, queue_of, has_opening, is_enlisted, enlisted, with_item}
use Rattle.event_book.specs.WindowFiles.{given, with_written, left, deleted, file_of, with_file}
use Rattle.event_book.specs.declared.lives.Recorded.{Recorded}
use Rattle.event_book.specs.declared.finding.BackFault.{BackFault}

-- The event files by window, the window of each opening ever added, the waiting reads of all windows in
-- the order of asking, and the latest entry of a call.
pub record BookState : Type 0 where
  pub files : List WindowFile
  pub owners : List ℕ
  pub reads : List Asker
  pub latest : ℕ

-- no window has an event file
abbrev pub empty_book : BookState
empty_book = record { files = []; owners = []; reads = []; latest = 0 }

-- openings are numbered from 1 in the order in which they were added
abbrev pub owner_of : List ℕ → ℕ → Option ℕ
owner_of owners opening = numbered owners opening

-- the window of an opening; 0 where it was never added
abbrev pub window_of : List ℕ → ℕ → ℕ
window_of owners opening = unwrap_or (owner_of owners opening) 0

-- the event file of the opening's window
abbrev pub file_on : BookState → ℕ → EventFile
file_on s opening = file_of s.files (window_of s.owners opening)

-- whether a window's event file is open
abbrev pub is_open_window : BookState → ℕ → Bool
is_open_window s window = has_opening (file_of s.files window)

-- whether the opening is open
abbrev pub is_living : BookState → ℕ → Bool
is_living s opening = is_enlisted (file_on s opening) opening

-- a window's event file is open
abbrev pub IsOpen : BookState → ℕ → Type 0
IsOpen s window = IsTrue (is_open_window s window)

-- an opening is there
abbrev pub IsLiving : BookState → ℕ → Type 0
IsLiving s opening = IsTrue (is_living s opening)

-- the item of the window with this number, with its life
abbrev pub recorded_of : BookState → ℕ → ℕ → Option Recorded
recorded_of s window number = numbered (file_of s.files window).items number

-- the item of this number
abbrev pub item_of : BookState → ℕ → ℕ → Option Item
item_of s window number = option_map (λ e. e.item) (recorded_of s window number)

-- whether the item was taken, and not written back
abbrev pub is_taken_of : BookState → ℕ → ℕ → Bool
is_taken_of s window number = has_taken (recorded_of s window number)

-- the item of this number was taken, and isn't written back
abbrev pub IsTaken : BookState → ℕ → ℕ → Type 0
IsTaken s window number = IsTrue (is_taken_of s window number)

-- ---- the calls

-- with this event file of a window
abbrev pub with_window : BookState → ℕ → EventFile → BookState
with_window s window f = record s { files = with_file window f s.files }

-- the number of the opening that comes
abbrev pub next_opening : BookState → ℕ
next_opening s = length s.owners + 1

-- an opening more of a window's event file
abbrev pub after_add : BookState → ℕ → BookState
after_add s window = record s {
  files = with_file window (enlisted (file_of s.files window) (next_opening s)) s.files;
  owners = s.owners ++ window ∷ [];
}

-- the number of the item that comes
abbrev pub next_number : BookState → ℕ → ℕ
next_number s window = length (file_of s.files window).items + 1

-- an item more of a window
abbrev pub after_put : BookState → ℕ → Item → BookState
after_put s window item = with_window s window (with_item (file_of s.files window) item)

-- whether a read has to wait
abbrev pub read_waits : BookState → Asker → Bool
read_waits s r = must_wait (queue_of (file_on s r.opening)) r

-- what the read is given now
abbrev pub piece_for : BookState → Asker → Piece
piece_for s r = piece_of (queue_of (file_on s r.opening)) r

-- what the piece of a read leaves, at an entry
abbrev pub after_answer : BookState → Asker → ℕ → BookState
after_answer s r at = record s {
  files = with_file (window_of s.owners r.opening) (given (file_on s r.opening) r at) s.files;
  latest = at;
}

-- the answer to a read
abbrev pub asked_of : BookState → Asker → Asked
asked_of s r = if read_waits s r then Waits else Now (piece_for s r)

-- the read waits, or took its piece
abbrev pub after_ask : BookState → Asker → ℕ → BookState
after_ask s r at = if read_waits s r then record s { reads = s.reads ++ r ∷ []; latest = at } else after_answer s r at

-- whether a read can be answered: its window has a pending item, or its opening a carry, or it asks for nothing
abbrev pub is_ready : List WindowFile → List ℕ → Asker → Bool
is_ready files owners r = not (must_wait (queue_of (file_of files (window_of owners r.opening))) r)

-- the oldest waiting read over all windows that can be answered
abbrev pub next_of : BookState → Option Asker
next_of s = find (is_ready s.files s.owners) s.reads

-- the oldest read that can be answered, and what it gets
abbrev pub served_of : BookState → Option (Asker × Piece)
served_of s = option_map (λ r. (r, piece_for s r)) (next_of s)

-- that read waits no more
abbrev pub without_next : BookState → BookState
without_next s = record s { reads = without_first (is_ready s.files s.owners) s.reads }

-- a read waits no more, and took its piece
abbrev pub after_next : Option Asker → BookState → ℕ → BookState
after_next None s at = s
after_next (Some r) s at = after_answer (without_next s) r at

-- the oldest read that can be answered was
abbrev pub after_serve : BookState → ℕ → BookState
after_serve s at = after_next (next_of s) s at

-- the item of a window that an event message names, or why there is none
abbrev pub found_of : BookState → ℕ → BackMsg → Result ℕ BackFault
found_of s window m = found_in m (file_of s.files window).items

-- an item is written back by an entry
abbrev pub after_written : BookState → ℕ → ℕ → ℕ → BookState
after_written s window number at = record s {
  files = with_file window (with_written (file_of s.files window) number at) s.files;
  latest = at;
}

-- the read of a tag on a connection waits no more
abbrev pub after_cancel : BookState → ℕ → ℕ → BookState
after_cancel s conn tag = record s { reads = without_read s.reads conn tag }

-- the opening closes; the last one of a window drops its pending items
abbrev pub after_leave : BookState → ℕ → ℕ → BookState
after_leave s opening at = record {
  files = with_file (window_of s.owners opening) (left (file_on s opening) opening at) s.files;
  owners = s.owners;
  reads = without_reads_on s.reads opening;
  latest = at;
}

-- whether a read is on an opening of this window
abbrev pub is_on_window : List ℕ → ℕ → Asker → Bool
is_on_window owners window r = window_of owners r.opening == window

-- all openings of the window close
abbrev pub after_delete : BookState → ℕ → ℕ → BookState
after_delete s window at = record {
  files = with_file window (deleted (file_of s.files window) at) s.files;
  owners = s.owners;
  reads = filter (λ r. not (is_on_window s.owners window r)) s.reads;
  latest = at;
}
