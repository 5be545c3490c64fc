-- Limits of a line.
use Rattle.std.specs.Prelude.{ℕ}

-- the largest number of a fid
abbrev pub most_fids : ℕ
most_fids = 1000

-- the most bytes that a line reads or writes
abbrev pub most_bytes : ℕ
most_bytes = 8000

-- the most bytes of a name
abbrev pub most_name_bytes : ℕ
most_name_bytes = 65535
