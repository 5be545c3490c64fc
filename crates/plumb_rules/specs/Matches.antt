-- The match of a `data matches` rule.
use Rattle.std.specs.Prelude.{ℕ, ◌==◌, List, slice_get, Option, Some, None, if◌then◌else◌}
use Rattle.am_text.specs.declared.range.Range.{Range}

-- a text, the range of a match in it, and the ten ranges of the match: the whole one, and those of its groups
pub record Match : Type 0 where
  pub text : List ℕ
  pub range : Range
  pub groups : List (Option Range)

-- the range, where it is there and took part
abbrev pub range_at : Option (Option Range) → Option Range
range_at (Some found) = found
range_at None = None

-- the range of the match, or of a group
abbrev pub range_of : Match → ℕ → Option Range
range_of m n = if n == 0 then Some m.range else range_at (slice_get m.groups n)
