-- The items that a deed makes.
use Rattle.std.specs.Prelude.{ℕ, List, [], ◌∷◌, map, Option, Some, None, if◌then◌else◌}
use Rattle.win_events.specs.declared.item.Item.{Item}
use Rattle.event_book.specs.BookState.{BookState, is_open_window}
use Rattle.core_windows.specs.declared.change.Change.{Change}
use Rattle.core_windows.specs.declared.change.Change.TheVariants as change
use Rattle.core_scene.specs.declared.deed.WindowItem.{WindowItem}

-- an item of a window
abbrev pub of_window : ℕ → Item → WindowItem
of_window w item = record { window = w; item = item }

-- an item comes where the event file of its window is open
abbrev pub told_in : BookState → ℕ → List Item → List WindowItem
told_in book w items = if is_open_window book w then map (of_window w) items else []

-- the items that a change tells, if it is one of a window
abbrev pub told_if_any : BookState → Option ℕ → List Item → List WindowItem
told_if_any book None items = []
told_if_any book (Some w) items = told_in book w items

-- the window that a change makes items of
abbrev pub teller_of : Change → Option ℕ
teller_of (change.Makes name) = None
teller_of (change.Deletes w) = None
teller_of (change.Edits w edits) = Some w
teller_of (change.Adds w text) = Some w
teller_of (change.Sets w setting) = Some w
teller_of (change.Undoes w) = Some w
teller_of (change.Redoes w) = Some w

-- the window that a change deletes, if it deletes one
abbrev pub deletes : Change → List ℕ
deletes (change.Makes name) = []
deletes (change.Deletes w) = w ∷ []
deletes (change.Edits w edits) = []
deletes (change.Adds w text) = []
deletes (change.Sets w setting) = []
deletes (change.Undoes w) = []
deletes (change.Redoes w) = []
