-- `D`: windows are deleted by their names.
use Rattle.std.specs.Prelude.{ℕ, ◌==◌, List, [], ◌∷◌, ◌++◌, map, fold, Option, Some, None, Result, Ok, Err}
use Rattle.std.specs.Prelude.{IsSome, if◌then◌else◌}
use Rattle.std.specs.List.{list_any}
use Rattle.acme_cmd.specs.Names.{whole_name}
use Rattle.core_windows.specs.Windows.{Window, window_at, named}
use Rattle.core_windows.specs.declared.change.Change.TheVariants as change
use Rattle.core_scene.specs.declared.deed.Deed.{Deed}
use Rattle.core_scene.specs.declared.deed.Deed.TheVariants as deed
use Rattle.core_actions.specs.Seen.{dir_of, asks}
use Rattle.core_edit.specs.declared.fault.CommandFault.{CommandFault}
use Rattle.core_edit.specs.declared.fault.CommandFault.TheVariants as fault

-- ---- the windows that are named

-- the window, where it is there, and isn't a modified one that `del` would ask of
abbrev pub to_delete : List (Option Window) → Option ℕ → Result ℕ CommandFault
to_delete windows None = Err fault.NoSuchWindow
to_delete windows (Some v) = if asks (window_at windows v) then Err fault.WindowModified else Ok v

-- the window of a name, made whole with a directory: the one of least number that has it
abbrev pub window_named : List (Option Window) → List ℕ → List ℕ → Result ℕ CommandFault
window_named windows dir name = to_delete windows (named windows (whole_name dir name))

-- windows before others, where there is no fault among those
abbrev pub before : List ℕ → Result (List ℕ) CommandFault → Result (List ℕ) CommandFault
before vs (Ok later) = Ok (vs ++ later)
before vs (Err f) = Err f

-- a window before those of the names behind it; its fault goes before theirs
abbrev pub first_of_all : Result ℕ CommandFault → Result (List ℕ) CommandFault → Result (List ℕ) CommandFault
first_of_all (Ok v) later = before (v ∷ []) later
first_of_all (Err f) later = Err f

-- the windows of these names, in order, or the fault of the first name that has one
abbrev pub windows_named : List (Option Window) → List ℕ → List (List ℕ) → Result (List ℕ) CommandFault
windows_named windows dir [] = Ok []
windows_named windows dir (name ∷ names) =
    first_of_all (window_named windows dir name) (windows_named windows dir names)

-- the windows of the names, made whole with the directory of window w; without a name, w itself
abbrev pub windows_to_delete : ℕ → List (List ℕ) → List (Option Window) → Result (List ℕ) CommandFault
windows_to_delete w [] windows = first_of_all (to_delete windows (Some w)) (Ok [])
windows_to_delete w (name ∷ names) windows = windows_named windows (dir_of (window_at windows w)) (name ∷ names)

-- each of them lives
abbrev pub AreLive : List (Option Window) → List ℕ → Type 0
AreLive windows [] = Unit {0}
AreLive windows (v ∷ vs) = IsSome (window_at windows v) × AreLive windows vs

-- ---- their deletion

-- one window more, unless it is among them
abbrev pub with_one : List ℕ → ℕ → List ℕ
with_one vs v = if list_any (λ x. x == v) vs then vs else vs ++ v ∷ []

-- each once, in the order in which they first come
abbrev pub once : List ℕ → List ℕ
once vs = fold with_one [] vs

-- a window is deleted
abbrev pub deletion : ℕ → Deed
deletion v = deed.Windows (change.Deletes v)

-- each is deleted, once
abbrev pub deletions : List ℕ → List Deed
deletions vs = map deletion (once vs)
