-- The windows that the editor keeps.
use Rattle.std.specs.Prelude.{◌≡◌, ℕ, ◌+◌, ◌<◌, Bool, false, List, length, map, slice_index_or, IsSome, Option, Some}
use Rattle.std.specs.Prelude.{None}
use Rattle.std.specs.Str.{bytes_eq}
use Rattle.core_windows.specs.declared.pane.Pane.{Pane}
use Rattle.core_windows.specs.Places.{at_number}
use Rattle.core_windows.specs.Windows.{Window}

-- a window as it stands, without the room for what it will get
abbrev pub window_of : Pane → Window
window_of pane = record { name = pane.name; right = pane.right.items; body = pane.body.state; modified = pane.modified }

-- the window of a pane, if it is there
abbrev pub window_if_live : Option Pane → Option Window
window_if_live None = None
window_if_live (Some pane) = Some (window_of pane)

-- the windows of panes
abbrev pub windows_of : List (Option Pane) → List (Option Window)
windows_of panes = map window_if_live panes

-- the pane of the window of that number, if it lives
abbrev pub pane_at : List (Option Pane) → ℕ → Option Pane
pane_at panes w = at_number panes w

-- whether it lives and has this name
abbrev pub has_name : List ℕ → Option Pane → Bool
has_name name None = false
has_name name (Some pane) = bytes_eq pane.name name

-- a live window stands at this place
pub record IsPlaceOf (panes : List (Option Pane)) (window place : ℕ) : Type 0 where
  pub number : window ≡ place + 1
  pub within : place < length panes
  pub lives : (d : Option Pane) → IsSome (slice_index_or panes place d)
