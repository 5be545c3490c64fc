-- Names that are opened: New, and Look at a name (acme(1)).
use Rattle.std.specs.Prelude.{ℕ, ◌==◌, List, [], ◌∷◌, ◌++◌, length, IsSome, Option, Some, None, if◌then◌else◌}
use Rattle.acme_cmd.specs.Names.{whole_name}
use Rattle.acme_tree.specs.Trees.{world_is_full}
use Rattle.am_text.specs.Utf8.{utf8, decode}
use Rattle.name_tree.specs.Listing.{found_at}
use Rattle.name_tree.specs.Paths.{is_root}
use Rattle.name_tree.specs.declared.types.Node.{Node}
use Rattle.name_tree.specs.declared.types.Found.{Found}
use Rattle.name_tree.specs.declared.types.Found.TheVariants as found
use Rattle.core_windows.specs.Windows.{Window, window_at, world_of, named}
use Rattle.core_windows.specs.declared.change.Change.TheVariants as change
use Rattle.core_windows.specs.declared.change.Setting.TheVariants as setting
use Rattle.core_scene.specs.declared.deed.Entry.{Entry}
use Rattle.core_scene.specs.declared.deed.Deed.{Deed}
use Rattle.core_scene.specs.declared.deed.Deed.TheVariants as deed
use Rattle.core_scene.specs.Scenes.{SceneState, then_}
use Rattle.am_text.specs.Ascii.{slash}
use Rattle.core_actions.specs.declared.opening.Target.{Target}
use Rattle.core_actions.specs.declared.opening.Target.TheVariants as target
use Rattle.core_actions.specs.Seen.{dir_of, fits}
use Rattle.core_actions.specs.Paths.{without_slash, is_place}
use Rattle.core_actions.specs.Made.{next_window, make_deeds}
use Rattle.core_actions.specs.Addressed.{name_part, address_part, address_deeds}

-- ---- what a name opens

-- a directory's window has a `/` at the end of its name
abbrev pub dir_name : List ℕ → List ℕ
dir_name path = if is_root path then path else path ++ slash ∷ []

-- a body has room for the text
abbrev pub shown_if_fits : List ℕ → List ℕ → Option Target
shown_if_fits name text = if fits 0 (length text) then Some (target.New name text) else None

-- what is opened for what was found at a path
abbrev pub shown_as : List ℕ → Found → Option Target
shown_as path found.None = None
shown_as path (found.File bytes) = shown_if_fits path (decode bytes)
shown_as path (found.Dir bytes) = shown_if_fits (dir_name path) (decode bytes)

-- the file or directory of a path
abbrev pub file_target : List ℕ → List (List ℕ × Node) → Option Target
file_target path files = if is_place path then shown_as path (found_at files (utf8 path)) else None

-- the window, or the other where there is none
abbrev pub live_or : Option ℕ → Option Target → Option Target
live_or None other = other
live_or (Some w) other = Some (target.Live w)

-- the live window of that whole name, or else the file or directory of that name
abbrev pub target_of : List ℕ → SceneState → Option Target
target_of name s = live_or (named s.windows name) (file_target (without_slash name) s.files)

-- a window that is named lives
abbrev pub IsThere : List (Option Window) → Target → Type 0
IsThere windows (target.Live w) = IsSome (window_at windows w)
IsThere windows (target.New name text) = Unit {0}

-- ---- opening it

-- a window is made that has this text and counts as unmodified
abbrev pub show_deeds : List ℕ → List ℕ → SceneState → List Deed
show_deeds name text s = make_deeds name text s ++ deed.Windows (change.Sets (next_window s) setting.Clean) ∷ []

-- a new window shows a text, at an address
abbrev pub show_at : Entry → List ℕ → List ℕ → Option (List ℕ) → SceneState → List Deed
show_at e name text address s = then_ e (show_deeds name text) (address_deeds (next_window s) address) s

-- the window is taken, or made where one more can be, and the address sets its dot
abbrev pub open_deeds : Entry → Target → Option (List ℕ) → SceneState → List Deed
open_deeds e (target.Live w) address s = address_deeds w address s
open_deeds e (target.New name text) address s =
    if world_is_full (world_of s.windows) then [] else show_at e name text address s

-- ---- New

-- a window of this name, without a text
abbrev pub empty_deeds : List ℕ → SceneState → List Deed
empty_deeds name s = if world_is_full (world_of s.windows) then [] else deed.Windows (change.Makes name) ∷ []

-- what was found is opened, or an empty window is made
abbrev pub open_or_make : Entry → Option Target → List ℕ → Option (List ℕ) → SceneState → List Deed
open_or_make e None name address s = empty_deeds name s
open_or_make e (Some t) name address s = open_deeds e t address s

-- what a name names is opened, or an empty window is made
abbrev pub named_deeds : Entry → List ℕ → Option (List ℕ) → SceneState → List Deed
named_deeds e name address s = open_or_make e (target_of name s) name address s

-- New: an empty window; with an argument what its name opens, or else an empty window of that name
abbrev pub new_deeds : Entry → ℕ → List ℕ → SceneState → List Deed
new_deeds e w argument s =
    if length argument == 0 then empty_deeds [] s
    else named_deeds e (whole_name (dir_of (window_at s.windows w)) (name_part argument)) (address_part argument) s
