-- What Undo and Redo make of all windows.
use Rattle.std.specs.Prelude.{◌≡◌, ℕ, map, Option, Some, None, if◌then◌else◌}
use Rattle.std.specs.Option.{option_map}
use Rattle.core_windows.specs.Windows.{Window, window_at, undone_window, redone_window}
use Rattle.core_scene.specs.declared.deed.Entry.{Entry}
use Rattle.core_scene.specs.Scenes.{SceneState, done_all}
use Rattle.core_actions.specs.declared.undoing.Move.{Move}
use Rattle.core_actions.specs.declared.undoing.Move.TheVariants as move
use Rattle.core_actions.specs.Undoing.{next_group, is_number, move_deeds}

-- a window after Undo, or Redo
abbrev pub moved_window : Move → Window → Window
moved_window move.Undo window = undone_window window
moved_window move.Redo window = redone_window window

-- a window whose next group has this number, once that group is moved; any other as it is
abbrev pub moved_if : Move → Option ℕ → Option Window → Option Window
moved_if m None o = o
moved_if m (Some n) o = if is_number n (next_group m o) then option_map (moved_window m) o else o

-- Undo and Redo in a window move the next group of each window where it has the number of that window's, and leave each
-- other window whole; where that window has no group, all.
abbrev pub MovesAreLinked : Type 0
MovesAreLinked =
    (e : Entry) (m : Move) (w : ℕ) (s : SceneState) → (done_all e s (move_deeds m w s)).windows
    ≡ map (moved_if m (next_group m (window_at s.windows w))) s.windows
