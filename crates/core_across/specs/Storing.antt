-- `w`: the text of a range is stored in a file.
use Rattle.std.specs.Prelude.{ℕ, List, slice_range, Option, Result, Ok, Err, if◌then◌else◌}
use Rattle.addr_syntax.specs.Tree.{Tree}
use Rattle.am_text.specs.Utf8.{utf8}
use Rattle.am_text.specs.declared.range.Range.{Range}
use Rattle.name_tree.specs.Kinds.{file_clashes}
use Rattle.name_tree.specs.declared.types.Node.{Node}
use Rattle.core_windows.specs.Possible.{text_in}
use Rattle.core_windows.specs.Windows.{Window, window_at}
use Rattle.core_scene.specs.Scenes.{SceneState}
use Rattle.core_actions.specs.declared.fault.ActionFault.{ActionFault}
use Rattle.core_actions.specs.declared.files.Saved.{Saved}
use Rattle.core_actions.specs.Files.{whole_of}
use Rattle.core_actions.specs.Paths.{path_of}
use Rattle.core_edit.specs.declared.fault.CommandFault.{CommandFault}
use Rattle.core_edit.specs.declared.fault.CommandFault.TheVariants as fault
use Rattle.core_across.specs.FileFaults.{action_fault, and_then}
use Rattle.core_across.specs.Addressed.{range_in}
use Rattle.core_across.specs.Entering.{written}

-- where a file can be stored there
abbrev pub saved_if_free : List (List ℕ × Node) → Saved → Result Saved CommandFault
saved_if_free files saved = if file_clashes files (utf8 saved.path) then Err fault.FileNotFound else Ok saved

-- the text of a range, under a path, where there is one
abbrev pub saved_at : SceneState → List ℕ → Result (List ℕ) ActionFault → Result Saved CommandFault
saved_at s text (Err f) = Err (action_fault f)
saved_at s text (Ok path) = saved_if_free s.files (record { path = path; text = text })

-- the text of a range of the body, under the path of the name
abbrev pub saved_range : ℕ → Option (List ℕ) → SceneState → Range → Result Saved CommandFault
saved_range w name s r =
    saved_at s (slice_range (text_in (window_at s.windows w)) r.q0 r.q1)
    (path_of (window_at s.windows w) (written name))

-- w: the text of the range of the address, which is the whole body where none is written, is to be stored
abbrev pub write_plan : ℕ → Tree → Option (List ℕ) → SceneState → Result Saved CommandFault
write_plan w addr name s =
    and_then (range_in (window_at s.windows w) addr (whole_of (text_in (window_at s.windows w))))
    (saved_range w name s)
