-- Get and Put.
use Rattle.std.specs.Prelude.{ℕ, ◌==◌, ◌&&◌, not, Bool, List, [], ◌∷◌, ◌++◌, length, Option, Result, Ok, Err}
use Rattle.std.specs.Prelude.{if◌then◌else◌}
use Rattle.std.specs.Str.{bytes_eq}
use Rattle.am_text.specs.Utf8.{utf8, decode}
use Rattle.am_text.specs.declared.job.Job.{Job}
use Rattle.am_text.specs.declared.job.JobKind.TheVariants as kind
use Rattle.am_text.specs.declared.range.Range.{Range}
use Rattle.name_tree.specs.Kinds.{file_clashes}
use Rattle.name_tree.specs.Listing.{found_at}
use Rattle.name_tree.specs.declared.types.Node.{Node}
use Rattle.name_tree.specs.declared.types.Found.{Found}
use Rattle.name_tree.specs.declared.types.Found.TheVariants as found
use Rattle.core_addresses.specs.Data.{replacement}
use Rattle.core_windows.specs.Possible.{text_in}
use Rattle.core_windows.specs.Windows.{Window, window_at}
use Rattle.core_windows.specs.declared.change.Change.TheVariants as change
use Rattle.core_windows.specs.declared.change.Setting.TheVariants as setting
use Rattle.core_scene.specs.declared.deed.Deed.{Deed}
use Rattle.core_scene.specs.declared.deed.Deed.TheVariants as deed
use Rattle.core_scene.specs.FileNotes.{read_note, stored_note}
use Rattle.core_scene.specs.Scenes.{SceneState}
use Rattle.core_actions.specs.declared.fault.ActionFault.{ActionFault}
use Rattle.core_actions.specs.declared.fault.ActionFault.TheVariants as fault
use Rattle.core_actions.specs.declared.files.Saved.{Saved}
use Rattle.core_actions.specs.Seen.{name_of, dir_of, fits}
use Rattle.core_actions.specs.Outcomes.{Outcome, does, fails}
use Rattle.core_actions.specs.Paths.{path_named, path_of}

-- ---- what is read

-- the text of what was found
abbrev pub text_found : Found → Result (List ℕ) ActionFault
text_found found.None = Err fault.FileNotFound
text_found (found.File bytes) = Ok (decode bytes)
text_found (found.Dir bytes) = Ok (decode bytes)

-- the text of the file or directory at a path
abbrev pub text_there : List (List ℕ × Node) → Result (List ℕ) ActionFault → Result (List ℕ) ActionFault
text_there files (Err f) = Err f
text_there files (Ok path) = text_found (found_at files (utf8 path))

-- the text of the file or directory of that name, or else of the window's name
abbrev pub file_text : ℕ → List ℕ → SceneState → Result (List ℕ) ActionFault
file_text w name s = text_there s.files (path_of (window_at s.windows w) name)

-- ---- Get

-- the range of a whole text
abbrev pub whole_of : List ℕ → Range
whole_of text = record { q0 = 0; q1 = length text }

-- the text takes the place of the body, which counts as unmodified
abbrev pub fill_deeds : ℕ → List ℕ → SceneState → List Deed
fill_deeds w text s =
    deed.Windows (change.Edits w (replacement (whole_of (text_in (window_at s.windows w))) text))
    ∷ deed.Windows (change.Sets w setting.Clean) ∷ []

-- it is noted for the file `log`
abbrev pub get_noted : ℕ → List Deed
get_noted w = read_note w ∷ []

-- what Get does with a text
abbrev pub get_deeds : ℕ → List ℕ → SceneState → List Deed
get_deeds w text s = fill_deeds w text s ++ get_noted w

-- the body becomes this text, where there is one that fits
abbrev pub fill_outcome : ℕ → Result (List ℕ) ActionFault → SceneState → Outcome
fill_outcome w (Err f) s = fails f
fill_outcome w (Ok text) s = if fits 0 (length text) then does (get_deeds w text s) else fails fault.TextTooLong

-- Get: the text of the file or directory takes the place of the body
abbrev pub get_outcome : ℕ → List ℕ → SceneState → Outcome
get_outcome w name s = fill_outcome w (file_text w name s) s

-- ---- Put

-- the request that stores a file
abbrev pub save_job : ℕ → List ℕ → Saved → Job
save_job w dir saved = record { kind = kind.Save; window = w; dir = dir; command = saved.path; input = saved.text }

-- a text is stored under a path, and a program is requested to save it
abbrev pub store_deeds : ℕ → Saved → SceneState → List Deed
store_deeds w saved s =
    deed.Stores (utf8 saved.path) (utf8 saved.text) ∷ deed.Requests (save_job w (dir_of (window_at s.windows w)) saved)
    ∷ []

-- whether the path is that of the window's name
abbrev pub is_own : Option Window → List ℕ → Bool
is_own window path = not (length (name_of window) == 0) && bytes_eq path (path_named (dir_of window) (name_of window))

-- the window counts as saved, where the test holds
abbrev pub clean_if : Bool → ℕ → List Deed
clean_if b w = if b then deed.Windows (change.Sets w setting.Clean) ∷ [] else []

-- the body is stored, and counts as unmodified where the path is its window's own
abbrev pub put_deeds : ℕ → Saved → SceneState → List Deed
put_deeds w saved s = store_deeds w saved s ++ clean_if (is_own (window_at s.windows w) saved.path) w

-- it is noted for the file `log`
abbrev pub put_noted : ℕ → List Deed
put_noted w = stored_note w ∷ []

-- the body is stored at a path
abbrev pub put_at : ℕ → Result (List ℕ) ActionFault → SceneState → Outcome
put_at w (Err f) s = fails f
put_at w (Ok path) s =
    if file_clashes s.files (utf8 path) then fails fault.FileNotFound
    else does (put_deeds w (record { path = path; text = text_in (window_at s.windows w) }) s ++ put_noted w)

-- Put: the body is stored under that name, or else under the window's name
abbrev pub put_outcome : ℕ → List ℕ → SceneState → Outcome
put_outcome w name s = put_at w (path_of (window_at s.windows w) name) s
