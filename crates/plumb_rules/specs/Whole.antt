-- A match that takes a whole text.
use Rattle.std.specs.Prelude.{◌==◌, ◌&&◌, ℕ, Bool, false, Option, Some, None}
use Rattle.am_text.specs.declared.range.Range.{Range}

-- a match that begins with the text and ends here
abbrev pub is_all : Option Range → ℕ → Bool
is_all None end = false
is_all (Some s) end = (s.q0 == 0) && (s.q1 == end)
