-- Sets of places.
use Rattle.std.specs.Prelude.{◌+◌, ◌-◌, ◌&&◌, ℕ, Bool, true, false, List, length, replicate, slice_index_or, slice_set}
use Rattle.std.specs.Prelude.{nat_le, if◌then◌else◌}

-- the places from a lowest one on, each in the set or not
pub record Cells : Type 0 where
  pub low : ℕ
  pub cells : List Bool

-- none of so many places
abbrev pub none_from : ℕ → ℕ → Cells
none_from low count = record { low = low; cells = replicate count false }

-- the place after the last one
abbrev pub past : Cells → ℕ
past s = s.low + length s.cells

-- the place is in the set
abbrev pub has : Cells → ℕ → Bool
has s j = nat_le s.low j && slice_index_or s.cells (j - s.low) false

-- the set with a place more
abbrev pub put : Cells → ℕ → Cells
put s j = record { low = s.low; cells = slice_set s.cells (j - s.low) true }

-- the same, where on holds
abbrev pub put_if : Cells → ℕ → Bool → Cells
put_if s j on = if on then put s j else s
