-- Texts for the window that takes what is said about a directory's windows, `+Errors` (acme(1)).
use Rattle.std.specs.Prelude.{ℕ, ◌==◌, ◌||◌, not, Bool, false, List, [], ◌∷◌, ◌++◌, length, codes, Option, Some, None}
use Rattle.std.specs.Prelude.{if◌then◌else◌}
use Rattle.acme_tree.specs.Trees.{world_is_full}
use Rattle.win_ctl.specs.Directory.{errors_name}
use Rattle.core_addresses.specs.Data.{replacement}
use Rattle.sam_address.specs.Value.{null_at}
use Rattle.core_windows.specs.Possible.{text_in}
use Rattle.core_windows.specs.Windows.{window_at, world_of, named}
use Rattle.core_windows.specs.declared.change.Change.TheVariants as change
use Rattle.core_scene.specs.declared.deed.Entry.{Entry}
use Rattle.core_scene.specs.declared.deed.Deed.{Deed}
use Rattle.core_scene.specs.declared.deed.Deed.TheVariants as deed
use Rattle.core_scene.specs.Scenes.{SceneState}
use Rattle.core_actions.specs.Seen.{fits}
use Rattle.core_actions.specs.Made.{make_deeds}

-- the text is put at the end of a window's body
abbrev pub append_deeds : ℕ → List ℕ → SceneState → List Deed
append_deeds w text s =
    deed.Windows (change.Edits w (replacement (null_at (length (text_in (window_at s.windows w)))) text)) ∷ []

-- at the end of that window, or of one that is made
abbrev pub put_in : List ℕ → List ℕ → Option ℕ → SceneState → List Deed
put_in name text (Some w) s = append_deeds w text s
put_in name text None s = make_deeds name text s

-- how many runes the window has; a new one has none
abbrev pub size_of : Option ℕ → SceneState → ℕ
size_of None s = 0
size_of (Some w) s = length (text_in (window_at s.windows w))

-- the window isn't there, and no more can be made
abbrev pub is_missing : Option ℕ → SceneState → Bool
is_missing None s = world_is_full (world_of s.windows)
is_missing (Some w) s = false

-- it has no place for the text, or there is no text
abbrev pub is_dropped : List ℕ → Option ℕ → SceneState → Bool
is_dropped text w s = (length text == 0) || is_missing w s || not (fits (size_of w s) (length text))

-- a text goes to the errors window, unless it is dropped
abbrev pub errors_in : List ℕ → List ℕ → Option ℕ → SceneState → List Deed
errors_in name text w s = if is_dropped text w s then [] else put_in name text w s

-- The text is put at the end of the directory's errors window, which is made where there is none. It is dropped where
-- it is empty, where the window would have more than 16,777,216 runes, and where the window can't be made.
abbrev pub errors_deeds : Entry → List ℕ → List ℕ → SceneState → List Deed
errors_deeds e dir text s = errors_in (errors_name dir) text (named s.windows (errors_name dir)) s
