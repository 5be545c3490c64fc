-- Windows as they stand, and what is done to them.
use Rattle.std.specs.Prelude.{ℕ, ◌+◌, ◌-◌, ◌==◌, ◌||◌, not, Bool, true, false, List, [], ◌∷◌, ◌++◌, length, codes}
use Rattle.std.specs.Prelude.{Option, Some, None, if◌then◌else◌}
use Rattle.std.specs.Option.{option_map}
use Rattle.std.specs.Str.{bytes_eq}
use Rattle.acme_tree.specs.declared.node.World.{World}
use Rattle.am_text.specs.declared.range.Range.{Range}
use Rattle.edit_log.specs.declared.types.Edit.{Edit}
use Rattle.win_text.specs.declared.types.TextPlan.{TextPlan}
use Rattle.win_text.specs.Bodies.{BodyState, empty_body, applied, undo_plan_of, redo_plan_of, with_dot, with_addr}
use Rattle.win_text.specs.Bodies.{with_limit, marked_body}
use Rattle.win_text.specs.BodyStories.{plan_of}
use Rattle.core_windows.specs.Places.{at_place, at_number, gone}
use Rattle.core_windows.specs.declared.change.Change.{Change}
use Rattle.core_windows.specs.declared.change.Change.TheVariants as change
use Rattle.core_windows.specs.declared.change.Setting.{Setting}
use Rattle.core_windows.specs.declared.change.Setting.TheVariants as setting

-- a window: its name, the right part of its tag, its body, and whether it is modified
pub record Window : Type 0 where
  pub name : List ℕ
  pub right : List ℕ
  pub body : BodyState
  pub modified : Bool

-- All windows that were ever made stand in a list, by number from 1. One that was deleted is None there.

-- the window of that number, if it lives
abbrev pub window_at : List (Option Window) → ℕ → Option Window
window_at windows w = at_number windows w

-- ---- one window

-- a new window is empty and clean
abbrev pub named_window : List ℕ → Window
named_window name = record { name = name; right = codes " Look "; body = empty_body; modified = false }

-- a window after a plan of its body: edits modify it
abbrev pub planned : TextPlan → Window → Window
planned plan window = record window {
  body = applied window.body plan;
  modified = window.modified || not (length plan.edits == 0);
}

-- a window after a plan of its body, if there is one
abbrev pub planned_if_any : Option TextPlan → Window → Window
planned_if_any None window = window
planned_if_any (Some plan) window = planned plan window

-- the plan of edits by the step of this number: dot moves with them
abbrev pub edit_plan : List Edit → ℕ → Window → TextPlan
edit_plan edits at window = plan_of window.body (record { edits = edits; dot = None }) at

-- a window after edits of its body by the step of this number
abbrev pub edited : List Edit → ℕ → Window → Window
edited edits at window = planned (edit_plan edits at window) window

-- after Undo and after Redo of its body, where there is a group
abbrev pub undone_window : Window → Window
undone_window window = planned_if_any (undo_plan_of window.body) window

-- a window after Redo
abbrev pub redone_window : Window → Window
redone_window window = planned_if_any (redo_plan_of window.body) window

-- with a text at the end of the right part of its tag
abbrev pub added : List ℕ → Window → Window
added text window = record window { right = window.right ++ text }

-- a window with one setting changed
abbrev pub set : Setting → Window → Window
set setting.AddrToDot window = record window { body = with_addr window.body window.body.dot }
set setting.DotToAddr window = record window { body = with_dot window.body window.body.addr }
set setting.LimitToAddr window = record window { body = with_limit window.body (Some window.body.addr) }
set setting.NoLimit window = record window { body = with_limit window.body None }
set (setting.Dot range) window = record window { body = with_dot window.body range }
set (setting.Addr range) window = record window { body = with_addr window.body range }
set setting.Clean window = record window { modified = false }
set setting.Dirty window = record window { modified = true }
set setting.ClearTag window = record window { right = [] }
set (setting.Mark automatic) window = record window { body = marked_body window.body automatic }
set (setting.Name name) window = record window { name = name }

-- ---- all windows

-- after a change by the step of this number; window w stands at the place w - 1
abbrev pub changed : ℕ → List (Option Window) → Change → List (Option Window)
changed at ws (change.Makes name) = ws ++ Some (named_window name) ∷ []
changed at ws (change.Deletes w) = at_place gone (w - 1) ws
changed at ws (change.Edits w edits) = at_place (option_map (edited edits at)) (w - 1) ws
changed at ws (change.Adds w text) = at_place (option_map (added text)) (w - 1) ws
changed at ws (change.Sets w setting) = at_place (option_map (set setting)) (w - 1) ws
changed at ws (change.Undoes w) = at_place (option_map undone_window) (w - 1) ws
changed at ws (change.Redoes w) = at_place (option_map redone_window) (w - 1) ws

-- after these changes by the step of this number, from first to last
abbrev pub all_changed : ℕ → List (Option Window) → List Change → List (Option Window)
all_changed at ws [] = ws
all_changed at ws (c ∷ cs) = all_changed at (changed at ws c) cs

-- the least number of a live window of that name, where the first window has this number
abbrev pub named_from : ℕ → List (Option Window) → List ℕ → Option ℕ
named_from w [] name = None
named_from w (None ∷ ws) name = named_from (w + 1) ws name
named_from w (Some window ∷ ws) name = if bytes_eq window.name name then Some w else named_from (w + 1) ws name

-- the window of this name
abbrev pub named : List (Option Window) → List ℕ → Option ℕ
named windows name = named_from 1 windows name

-- the address of a window
abbrev pub window_addr : Window → Range
window_addr window = window.body.addr

-- ---- what the editor's tree is made of

-- the numbers of the live windows, of which the first has this one
abbrev pub numbers : ℕ → List (Option Window) → List ℕ
numbers w [] = []
numbers w (None ∷ ws) = numbers (w + 1) ws
numbers w (Some window ∷ ws) = w ∷ numbers (w + 1) ws

-- what the trees see of the windows, where the root has the files `log` and `jobs` or not
abbrev pub world_with : Bool → List (Option Window) → World
world_with watched windows = record { windows = numbers 1 windows; next = length windows + 1; watched = watched }

-- the same for those who ask for the numbers alone
abbrev pub world_of : List (Option Window) → World
world_of windows = world_with false windows

-- ---- two states

-- all windows in their present state and in the kept one, and whether the root has the files `log` and `jobs`
pub record WindowsState : Type 0 where
  pub present : List (Option Window)
  pub kept : List (Option Window)
  pub watched : Bool

-- both states are this one
abbrev pub both_windows : Bool → List (Option Window) → WindowsState
both_windows watched windows = record { present = windows; kept = windows; watched = watched }
