-- A place in a text, with the number of its line.
use Rattle.std.specs.Prelude.{◌≡◌, ◌≤◌, ℕ, List, length}
use Rattle.edit_run.specs.declared.line_cursor.LineCursor.{LineCursor}
use Rattle.edit_run.specs.Told.{line_of}

-- the place is in the text, and the line is the one that has it
pub record IsCursorOf (t : List ℕ) (c : LineCursor) : Type 0 where
  pub place : c.place ≤ length t
  pub line : c.line ≡ line_of t c.place
