-- The command that a text of Edit is, one over windows and files or one of sam(1).
use Rattle.std.specs.Prelude.{ℕ, ◌&&◌, not, Bool, true, false, List, Option, Some, None, if◌then◌else◌}
use Rattle.edit_files.specs.Command.{FilesCommand, One, Each, Other, Open, Drops, Enter, ReadIn, WriteOut}
use Rattle.edit_files.specs.Command.{is_large, is_deep}
use Rattle.edit_files.specs.Files.{files_of}

-- one inside the limits of the language
abbrev pub small_one : Option FilesCommand → Option FilesCommand
small_one None = None
small_one (Some c) = if not (is_large c) && not (is_deep c) then Some c else None

-- the command that a text is, inside the limits
unfoldable pub small_files : List ℕ → Option FilesCommand
small_files text = small_one (files_of text)

-- whether it is one for which bodies are planned: a command of sam, in this window's body or in those of others
abbrev pub is_planned : FilesCommand → Bool
is_planned (One c) = true
is_planned (Each re c) = true
is_planned (Other re c) = true
is_planned (Open name) = false
is_planned (Drops names) = false
is_planned (Enter name) = false
is_planned (ReadIn addr name) = false
is_planned (WriteOut addr name) = false
