-- The commands over windows and files.
use Rattle.std.specs.Prelude.{ℕ, ◌||◌, Bool, false, List, Option}
use Rattle.re_syntax.specs.Tree as expression
use Rattle.addr_syntax.specs.Tree as address
use Rattle.edit_parts.specs.Tree.{Command, command}
use Rattle.edit_parts.specs.Limits.{is_large_expression, is_long_address}
use Rattle.sam_syntax.specs.Limits as edit
use Rattle.edit_files.specs.declared.command.FilesCmd as program
use Rattle.edit_files.specs.declared.command.FilesCmd.TheVariants as cmd

-- A command of sam, or one over windows and files. An address that isn't written is `Missing`, a name that isn't is
-- None.
pub data FilesCommand : Type 0 where
  One : (c : Command) → FilesCommand
  Each : (re : expression.Tree) (c : Command) → FilesCommand
  Other : (re : expression.Tree) (c : Command) → FilesCommand
  Open : (name : List ℕ) → FilesCommand
  Drops : (names : List (List ℕ)) → FilesCommand
  Enter : (name : Option (List ℕ)) → FilesCommand
  ReadIn : (addr : address.Tree) (name : Option (List ℕ)) → FilesCommand
  WriteOut : (addr : address.Tree) (name : Option (List ℕ)) → FilesCommand

-- the command of a value of the program
abbrev pub files_command : program.FilesCmd → FilesCommand
files_command (cmd.One c) = One (command c)
files_command (cmd.Each re c) = Each (expression.tree re) (command c)
files_command (cmd.Other re c) = Other (expression.tree re) (command c)
files_command (cmd.Open name) = Open name
files_command (cmd.Drop names) = Drops names
files_command (cmd.Enter name) = Enter name
files_command (cmd.ReadIn addr name) = ReadIn (address.tree_of addr) name
files_command (cmd.WriteOut addr name) = WriteOut (address.tree_of addr) name

-- some expression of the command, in an address too, has more than 2,048 nodes
abbrev pub is_large : FilesCommand → Bool
is_large (One c) = edit.is_large c
is_large (Each re c) = is_large_expression re || edit.is_large c
is_large (Other re c) = is_large_expression re || edit.is_large c
is_large (Open name) = false
is_large (Drops names) = false
is_large (Enter name) = false
is_large (ReadIn addr name) = address.is_large addr
is_large (WriteOut addr name) = address.is_large addr

-- there are more than 32 levels, or an address has more than 1,024 operators; `X` and `Y` are no level
abbrev pub is_deep : FilesCommand → Bool
is_deep (One c) = edit.is_deep c
is_deep (Each re c) = edit.is_deep c
is_deep (Other re c) = edit.is_deep c
is_deep (Open name) = false
is_deep (Drops names) = false
is_deep (Enter name) = false
is_deep (ReadIn addr name) = is_long_address addr
is_deep (WriteOut addr name) = is_long_address addr
