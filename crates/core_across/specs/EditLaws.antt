-- What holds of all texts of Edit.
use Rattle.std.specs.Prelude.{◌≡◌, ℕ, Bool, true, false, List, Option, Some, None, Err, IsSome}
use Rattle.core_windows.specs.Windows.{window_at, named}
use Rattle.core_windows.specs.declared.change.Change.TheVariants as change
use Rattle.core_scene.specs.declared.deed.Entry.{Entry}
use Rattle.core_scene.specs.Noted.{line_of_change, with_line_if_any}
use Rattle.core_scene.specs.Scenes.{SceneState, done_all}
use Rattle.core_actions.specs.Seen.{dir_of}
use Rattle.win_ctl.specs.Directory.{errors_name}
use Rattle.core_edit.specs.declared.fault.CommandFault.{CommandFault}
use Rattle.core_across.specs.Editing.{edit_outcome, edit_deeds}

-- the line that is noted where a window of this name is made
abbrev pub line_if_made : Bool → List ℕ → SceneState → Option (List ℕ)
line_if_made false name s = None
line_if_made true name s = line_of_change s.windows (change.Makes name)

-- Nothing changed but the first window of this name, which may be new: each other window is as it was, and so is all
-- that stands beside the windows, but that a window that is made is noted.
pub record OnlyOneChanged (name : List ℕ) (before after : SceneState) : Type 0 where
  pub windows : (w : ℕ) → IsSome (window_at before.windows w) → (named before.windows name ≡ Some w → ⊥)
      → window_at after.windows w ≡ window_at before.windows w
  pub book : after.book ≡ before.book
  pub files : after.files ≡ before.files
  pub snarf : after.snarf ≡ before.snarf
  pub jobs : after.jobs ≡ before.jobs
  pub rules : after.rules ≡ before.rules
  pub ports : after.ports ≡ before.ports
  pub made : Bool
  pub watch : after.watch ≡ with_line_if_any before.watch (line_if_made made name before)

-- Where a text of Edit has a fault, in whatever window or file it is, nothing changes but the errors window of the
-- directory.
abbrev pub FaultsAreOnlySaid : Type 0
FaultsAreOnlySaid = (e : Entry) (w : ℕ) (text : List ℕ) (s : SceneState) (f : Option CommandFault)
    → edit_outcome e w text s ≡ Err f → OnlyOneChanged (errors_name (dir_of (window_at s.windows w))) s
    (done_all e s (edit_deeds e w text s))
