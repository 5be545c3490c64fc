-- `e` and `r`: the text of a file or a directory becomes the body, or a part of it.
use Rattle.std.specs.Prelude.{ℕ, ◌-◌, List, [], ◌∷◌, length, Option, Some, None, Result, Ok, Err, if◌then◌else◌}
use Rattle.am_text.specs.declared.range.Range.{Range}
use Rattle.addr_syntax.specs.Tree.{Tree}
use Rattle.core_addresses.specs.Data.{replacement}
use Rattle.core_windows.specs.Possible.{text_in}
use Rattle.core_windows.specs.Windows.{Window, window_at}
use Rattle.core_windows.specs.declared.change.Change.TheVariants as change
use Rattle.core_scene.specs.declared.deed.Deed.{Deed}
use Rattle.core_scene.specs.declared.deed.Deed.TheVariants as deed
use Rattle.core_scene.specs.Scenes.{SceneState}
use Rattle.core_actions.specs.declared.fault.ActionFault.{ActionFault}
use Rattle.core_actions.specs.Files.{whole_of, file_text}
use Rattle.core_actions.specs.Seen.{dot_of, fits}
use Rattle.core_edit.specs.declared.fault.CommandFault.{CommandFault}
use Rattle.core_edit.specs.declared.fault.CommandFault.TheVariants as fault
use Rattle.core_across.specs.declared.entering.Placed.{Placed}
use Rattle.core_across.specs.FileFaults.{action_fault, and_then}
use Rattle.core_across.specs.Addressed.{range_in}

-- the name that is written; a missing one is empty, and so that of the window
abbrev pub written : Option (List ℕ) → List ℕ
written None = []
written (Some name) = name

-- how many runes a body has beside a range
abbrev pub size_beside : Option Window → Range → ℕ
size_beside window r = length (text_in window) - (r.q1 - r.q0)

-- where the body has room for the text
abbrev pub placed_if_fits : Option Window → Placed → Result Placed CommandFault
placed_if_fits window p =
    if fits (size_beside window p.range) (length p.text) then Ok p else Err fault.TextTooLong

-- the text in the place of a range, where there is one
abbrev pub text_placed : Option Window → Range → Result (List ℕ) ActionFault → Result Placed CommandFault
text_placed window r (Err f) = Err (action_fault f)
text_placed window r (Ok text) = placed_if_fits window (record { range = r; text = text })

-- e: the text of the file or directory is to take the place of the whole body
abbrev pub enter_plan : ℕ → Option (List ℕ) → SceneState → Result Placed CommandFault
enter_plan w name s =
    text_placed (window_at s.windows w) (whole_of (text_in (window_at s.windows w))) (file_text w (written name) s)

-- r: that of the range of the address, which is dot where none is written
abbrev pub read_plan : ℕ → Tree → Option (List ℕ) → SceneState → Result Placed CommandFault
read_plan w addr name s =
    and_then (range_in (window_at s.windows w) addr (dot_of (window_at s.windows w)))
    (λ r. text_placed (window_at s.windows w) r (file_text w (written name) s))

-- the text takes the place of the range
abbrev pub place_deeds : ℕ → Placed → List Deed
place_deeds w p = deed.Windows (change.Edits w (replacement p.range p.text)) ∷ []
