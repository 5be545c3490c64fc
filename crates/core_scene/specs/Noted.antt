-- The lines of the file `log` that deeds note.
use Rattle.std.specs.Prelude.{ℕ, ◌+◌, List, length, Option, Some, None}
use Rattle.acme_watch.specs.Lines.{log_line}
use Rattle.acme_watch.specs.Watching.{WatchState, with_line}
use Rattle.acme_watch.specs.declared.types.Op.{Op}
use Rattle.acme_watch.specs.declared.types.Op.TheVariants as op
use Rattle.core_windows.specs.Windows.{Window, window_at, world_of}
use Rattle.core_windows.specs.declared.change.Change.{Change}
use Rattle.core_windows.specs.declared.change.Change.TheVariants as change
use Rattle.core_windows.specs.declared.change.Setting.{Setting}
use Rattle.core_windows.specs.declared.change.Setting.TheVariants as setting

-- what happens to a window, with the name that it has
abbrev pub line_of : ℕ → Op → Option Window → Option (List ℕ)
line_of w what None = None
line_of w what (Some window) = Some (log_line w what window.name)

-- a new name is noted, also where it is the name that the window has
abbrev pub line_of_set : ℕ → Setting → Option (List ℕ)
line_of_set w setting.AddrToDot = None
line_of_set w setting.DotToAddr = None
line_of_set w setting.LimitToAddr = None
line_of_set w setting.NoLimit = None
line_of_set w (setting.Dot range) = None
line_of_set w (setting.Addr range) = None
line_of_set w setting.Clean = None
line_of_set w setting.Dirty = None
line_of_set w setting.ClearTag = None
line_of_set w (setting.Mark automatic) = None
line_of_set w (setting.Name name) = Some (log_line w op.Name name)

-- The line that a change of the windows notes, told by its window as it stands before: a window is made under a name,
-- deleted, or named. Other changes note none.
abbrev pub line_of_change : List (Option Window) → Change → Option (List ℕ)
line_of_change windows (change.Makes name) = Some (log_line (world_of windows).next op.New name)
line_of_change windows (change.Deletes w) = line_of w op.Del (window_at windows w)
line_of_change windows (change.Edits w edits) = None
line_of_change windows (change.Adds w text) = None
line_of_change windows (change.Sets w setting) = line_of_set w setting
line_of_change windows (change.Undoes w) = None
line_of_change windows (change.Redoes w) = None

-- a line comes, if there is one
abbrev pub with_line_if_any : WatchState → Option (List ℕ) → WatchState
with_line_if_any s None = s
with_line_if_any s (Some line) = with_line s line
