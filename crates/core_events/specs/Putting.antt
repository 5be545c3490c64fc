-- The items of a step in the event files.
use Rattle.std.specs.Prelude.{ℕ, Bool, ◌==◌, List, filter, if◌then◌else◌}
use Rattle.std.specs.List.{fold, list_any}
use Rattle.event_book.specs.BookState.{BookState, is_open_window, after_put}
use Rattle.core_scene.specs.declared.deed.WindowItem.{WindowItem}

-- an item comes where the event file is open
abbrev pub put_one : BookState → WindowItem → BookState
put_one book i = if is_open_window book i.window then after_put book i.window i.item else book

-- the event files with these items
abbrev pub put_all : BookState → List WindowItem → BookState
put_all book items = fold put_one book items

-- ---- where the step deletes these windows

-- whether a window is one of these
abbrev pub is_among : ℕ → List ℕ → Bool
is_among w windows = list_any (λ v. w == v) windows

-- whether the item is one of such a window
abbrev pub is_ending : List ℕ → WindowItem → Bool
is_ending deleted i = is_among i.window deleted

-- with an item, but for one of a window that is deleted
abbrev pub put_if_lives : List ℕ → BookState → WindowItem → BookState
put_if_lives deleted book i = if is_ending deleted i then book else put_one book i

-- the items of the windows that live on come first
abbrev pub put_living : List ℕ → BookState → List WindowItem → BookState
put_living deleted book items = fold (put_if_lives deleted) book items

-- those of the others come later
abbrev pub ending : List ℕ → List WindowItem → List WindowItem
ending deleted items = filter (is_ending deleted) items
