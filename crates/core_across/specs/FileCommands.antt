-- The commands of Edit over names and files: `B`, `D`, `e`, `r` and `w`.
use Rattle.std.specs.Prelude.{ℕ, List, [], Option, Some, None, Result, Ok, Err}
use Rattle.core_scene.specs.declared.deed.Deed.{Deed}
use Rattle.core_scene.specs.declared.deed.Entry.{Entry}
use Rattle.core_scene.specs.Scenes.{SceneState}
use Rattle.core_actions.specs.declared.files.Saved.{Saved}
use Rattle.core_actions.specs.Files.{store_deeds}
use Rattle.core_actions.specs.Opening.{new_deeds}
use Rattle.core_edit.specs.declared.fault.CommandFault.{CommandFault}
use Rattle.edit_files.specs.Command.{FilesCommand, One, Each, Other, Open, Drops, Enter, ReadIn, WriteOut}
use Rattle.core_across.specs.FileFaults.{as_deeds}
use Rattle.core_across.specs.Dropping.{windows_to_delete, deletions}
use Rattle.core_across.specs.Entering.{enter_plan, read_plan, place_deeds}
use Rattle.core_across.specs.Storing.{write_plan}

-- What a command does in a window, or why it does nothing: `B` is New, `D` deletes windows, `e` and `r` edit the body
-- and leave its mark, `w` stores as Put does and leaves the mark. Those over bodies are no such commands.
abbrev pub file_deeds : Entry → ℕ → FilesCommand → SceneState → Result (List Deed) CommandFault
file_deeds e w (Open name) s = Ok (new_deeds e w name s)
file_deeds e w (Drops names) s = as_deeds deletions (windows_to_delete w names s.windows)
file_deeds e w (Enter name) s = as_deeds (place_deeds w) (enter_plan w name s)
file_deeds e w (ReadIn addr name) s = as_deeds (place_deeds w) (read_plan w addr name s)
file_deeds e w (WriteOut addr name) s = as_deeds (λ saved. store_deeds w saved s) (write_plan w addr name s)
file_deeds e w (One c) s = Ok []
file_deeds e w (Each re c) s = Ok []
file_deeds e w (Other re c) s = Ok []

-- the deeds; where there is a fault, none
abbrev pub deeds_in : Result (List Deed) CommandFault → List Deed
deeds_in (Ok deeds) = deeds
deeds_in (Err f) = []

-- the fault, if there is one
abbrev pub fault_in : Result (List Deed) CommandFault → Option CommandFault
fault_in (Ok deeds) = None
fault_in (Err f) = Some f
