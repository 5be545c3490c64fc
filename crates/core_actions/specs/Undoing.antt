-- Undo and Redo, in all windows that one step changed.
use Rattle.std.specs.Prelude.{ℕ, ◌+◌, ◌==◌, Bool, false, List, [], ◌∷◌, ◌++◌, Option, Some, None, if◌then◌else◌}
use Rattle.std.specs.Option.{option_map}
use Rattle.edit_log.specs.Groups.{number_in, last_of, first_of}
use Rattle.core_windows.specs.Windows.{Window, window_at}
use Rattle.core_windows.specs.declared.change.Change.{Change}
use Rattle.core_windows.specs.declared.change.Change.TheVariants as change
use Rattle.core_scene.specs.declared.deed.Deed.{Deed}
use Rattle.core_scene.specs.declared.deed.Deed.TheVariants as deed
use Rattle.core_scene.specs.Scenes.{SceneState}
use Rattle.core_actions.specs.declared.undoing.Move.{Move}
use Rattle.core_actions.specs.declared.undoing.Move.TheVariants as move

-- the number of the step that began the window's next group to be moved, if there is one
abbrev pub next_group : Move → Option Window → Option ℕ
next_group m None = None
next_group move.Undo (Some window) = option_map number_in (last_of window.body.history.past)
next_group move.Redo (Some window) = option_map number_in (first_of window.body.history.future)

-- Undo, or Redo, in a window
abbrev pub moves : Move → ℕ → Change
moves move.Undo w = change.Undoes w
moves move.Redo w = change.Redoes w

-- whether it is this number
abbrev pub is_number : ℕ → Option ℕ → Bool
is_number n None = false
is_number n (Some k) = k == n

-- in a window whose next group has this number
abbrev pub moves_if : Move → ℕ → ℕ → Option Window → List Deed
moves_if m n w o = if is_number n (next_group m o) then deed.Windows (moves m w) ∷ [] else []

-- in all of these, of which the first has the number w
abbrev pub moves_from : Move → ℕ → ℕ → List (Option Window) → List Deed
moves_from m n w [] = []
moves_from m n w (o ∷ ws) = moves_if m n w o ++ moves_from m n (w + 1) ws

-- the move in each window that has a group of this number next
abbrev pub linked_deeds : Move → Option ℕ → SceneState → List Deed
linked_deeds m None s = []
linked_deeds m (Some n) s = moves_from m n 1 s.windows

-- Undo or Redo in a window: in each live window, by number, whose next group was begun by the same step as its own
abbrev pub move_deeds : Move → ℕ → SceneState → List Deed
move_deeds m w s = linked_deeds m (next_group m (window_at s.windows w)) s
