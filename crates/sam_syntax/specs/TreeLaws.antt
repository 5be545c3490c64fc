-- What holds of the commands of all texts.
use Rattle.std.specs.Prelude.{◌≡◌, ◌↔◌, ℕ, List, Some}
use Rattle.edit_parts.specs.Tree.{Command}
use Rattle.sam_syntax.specs.Grammar.{IsEdit}
use Rattle.sam_syntax.specs.Edits.{edit_of}

-- a text has a command exactly where the grammar writes that command so
abbrev pub EditsAreThose : Type 0
EditsAreThose = (text : List ℕ) (c : Command) → (edit_of text ≡ Some c) ↔ IsEdit text c
