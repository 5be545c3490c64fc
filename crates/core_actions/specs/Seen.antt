-- What actions see of a window; of one that doesn't live, nothing.
use Rattle.std.specs.Prelude.{ℕ, ◌+◌, ◌==◌, ◌&&◌, not, nat_eq, nat_le, Bool, false, List, [], length, codes}
use Rattle.std.specs.Prelude.{slice_range, Option, Some, None}
use Rattle.std.specs.List.{ends_with}
use Rattle.am_text.specs.declared.range.Range.{Range}
use Rattle.win_ctl.specs.Directory.{directory}
use Rattle.win_text.specs.Bodies.{null_range}
use Rattle.win_text.specs.Limits.{body_runes}
use Rattle.core_windows.specs.Possible.{text_in}
use Rattle.core_windows.specs.Windows.{Window}

-- the name of a window, nothing where there is none
abbrev pub name_of : Option Window → List ℕ
name_of None = []
name_of (Some window) = window.name

-- the directory of its name
abbrev pub dir_of : Option Window → List ℕ
dir_of window = directory (name_of window)

-- the dot of a window, null where there is none
abbrev pub dot_of : Option Window → Range
dot_of None = null_range
dot_of (Some window) = window.body.dot

-- the text that is selected
abbrev pub dot_text : Option Window → List ℕ
dot_text window = slice_range (text_in window) (dot_of window).q0 (dot_of window).q1

-- a body of so many runes has room for so many more
abbrev pub fits : ℕ → ℕ → Bool
fits len more = nat_le (len + more) body_runes

-- the name of a directory ends in `/`
abbrev pub is_dir_name : List ℕ → Bool
is_dir_name name = ends_with nat_eq name (codes "/")

-- A window with such a name isn't deleted by `del` and Del while it is modified: not an empty one, a directory's, or
-- one of an errors window.
abbrev pub is_guarded : List ℕ → Bool
is_guarded name = not (length name == 0) && not (is_dir_name name) && not (ends_with nat_eq name (codes "+Errors"))

-- whether it is modified and guarded
abbrev pub asks : Option Window → Bool
asks None = false
asks (Some window) = window.modified && is_guarded window.name
