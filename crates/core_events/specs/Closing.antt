-- What ends openings and waiting reads without a reply of their own, and items that are written back.
use Rattle.std.specs.Prelude.{ℕ, List, [], ◌∷◌, Option, Some, None, if◌then◌else◌}
use Rattle.std.specs.List.{fold}
use Rattle.fid_table.specs.declared.types.Fid.{Fid}
use Rattle.fid_table.specs.Tables.{Tables, fid_of, fids_of}
use Rattle.event_book.specs.BookState.{BookState, is_living, is_taken_of, after_leave, after_written, after_cancel}
use Rattle.event_book.specs.BookState.{after_delete}
use Rattle.core_fids.specs.Fids.{event_opening}
use Rattle.core_fids.specs.declared.effect.Effect.{Effect}
use Rattle.core_fids.specs.declared.effect.Effect.TheVariants as effect
use Rattle.core_fids.specs.declared.effect.EventChange.{EventChange}
use Rattle.core_fids.specs.declared.effect.EventChange.TheVariants as events
use Rattle.core_events.specs.declared.closing.BackItem.{BackItem}

-- An item that was taken, and not written back before, is written back.
abbrev pub written_back : ℕ → BookState → Option BackItem → BookState
written_back at book None = book
written_back at book (Some b) = if is_taken_of book b.window b.number then after_written book b.window b.number at else
    book

-- An opening closes, unless it did with its window.
abbrev pub without_opening : ℕ → BookState → Option ℕ → BookState
without_opening at book None = book
without_opening at book (Some opening) = if is_living book opening then after_leave book opening at else book

-- a fid that is freed closes its opening of an event file
abbrev pub without_fid : ℕ → BookState → ℕ × Fid → BookState
without_fid at book f = without_opening at book (event_opening f.1)

-- the opening of an event file of a fid that was looked up by its place
abbrev pub opening_at : Option (ℕ × Fid) → Option ℕ
opening_at None = None
opening_at (Some f) = event_opening f.1

-- all fids of a connection are freed
abbrev pub without_fids : ℕ → BookState → Tables → ℕ → BookState
without_fids at book tables conn = fold (without_fid at) book (fids_of tables conn)

-- the opening of a fid of an event file
abbrev pub opening_in : Option Fid → Option ℕ
opening_in None = None
opening_in (Some fid) = event_opening fid

-- the event files after an effect: openings go with their fids
abbrev pub freed : ℕ → BookState → Tables → ℕ → Effect → BookState
freed at book tables conn effect.Nothing = book
freed at book tables conn (effect.Begins msize) = without_fids at book tables conn
freed at book tables conn (effect.Puts fid value) = book
freed at book tables conn (effect.Frees fid) = without_opening at book (opening_in (fid_of tables conn fid))

-- a flushed read waits no more
abbrev pub cancelled : BookState → ℕ → EventChange → BookState
cancelled book conn events.Nothing = book
cancelled book conn (events.Opens w) = book
cancelled book conn (events.Joins port) = book
cancelled book conn (events.Watches file) = book
cancelled book conn (events.Cancels tag) = after_cancel book conn tag

-- the event files of windows that are deleted close, one after another
abbrev pub closed_with : ℕ → BookState → List ℕ → BookState
closed_with at book [] = book
closed_with at book (w ∷ ws) = closed_with at (after_delete book w at) ws
