-- The texts that the files of windows show.
use Rattle.std.specs.Prelude.{ℕ, ◌+◌, ◌==◌, not, Bool, List, [], ◌∷◌, ◌++◌, length, take, drop, codes, Option, Some}
use Rattle.std.specs.Prelude.{None}
use Rattle.std.specs.List.{ends_with}
use Rattle.std.specs.Prelude.{nat_eq}
use Rattle.am_text.specs.Utf8.{utf8}
use Rattle.win_ctl.specs.declared.tags.Tag.{Tag}
use Rattle.win_ctl.specs.declared.tags.Shown.{Shown}
use Rattle.win_ctl.specs.Tags.{tag_text}
use Rattle.win_ctl.specs.Columns.{ctl_text, index_line}
use Rattle.core_windows.specs.Windows.{Window, window_at}
use Rattle.core_windows.specs.Possible.{text_in}

-- the bytes that a read gives: from the offset, at most count
abbrev pub part_at : List ℕ → ℕ → ℕ → List ℕ
part_at bytes offset count = take count (drop offset bytes)

-- those of a text, which is read as UTF-8
abbrev pub read_of : List ℕ → ℕ → ℕ → List ℕ
read_of text offset count = part_at (utf8 text) offset count

-- the name of a directory ends in `/`
abbrev pub is_dir_name : List ℕ → Bool
is_dir_name name = ends_with nat_eq name (codes "/")

-- the parts of a window's tag
abbrev pub tag_of : Window → Tag
tag_of window = record { name = window.name; right = window.right }

-- what the tag offers: Undo and Redo where there is a group, Put where the window is modified,
-- Get where it is a directory
abbrev pub shown_of : Window → Shown
shown_of window = record {
  undo = not (length window.body.history.past == 0);
  redo = not (length window.body.history.future == 0);
  modified = window.modified;
  dir = is_dir_name window.name;
}

-- the whole text of the tag
abbrev pub whole_tag : Window → List ℕ
whole_tag window = tag_text (tag_of window) (shown_of window)

-- what `ctl` shows
abbrev pub ctl_of : ℕ → Window → List ℕ
ctl_of w window =
    ctl_text w (length (whole_tag window)) (length window.body.text) (is_dir_name window.name) window.modified

-- the line of a window in `index`
abbrev pub line_of : ℕ → Window → List ℕ
line_of w window = index_line w (whole_tag window) (length window.body.text) (is_dir_name window.name) window.modified

-- a line for each live window, of which the first in the list has this number
unfoldable pub index_from : ℕ → List (Option Window) → List ℕ
index_from w [] = []
index_from w (None ∷ ws) = index_from (w + 1) ws
index_from w (Some window ∷ ws) = line_of w window ++ index_from (w + 1) ws

-- ---- by the number of a window; none is shown where it doesn't live

-- the body of a window
abbrev pub text_of : Option Window → List ℕ
text_of window = text_in window

-- the right part of a window's tag
abbrev pub right_of : Option Window → List ℕ
right_of None = []
right_of (Some window) = window.right

-- the tag of a window
abbrev pub tag_if_live : Option Window → List ℕ
tag_if_live None = []
tag_if_live (Some window) = whole_tag window

-- what `ctl` gives of a window
abbrev pub ctl_if_live : ℕ → Option Window → List ℕ
ctl_if_live w None = []
ctl_if_live w (Some window) = ctl_of w window

-- the name of a window, nothing where there is none
abbrev pub name_of : Option Window → List ℕ
name_of None = []
name_of (Some window) = window.name

-- the body of the window of this number
abbrev pub text_at : List (Option Window) → ℕ → List ℕ
text_at windows w = text_of (window_at windows w)
