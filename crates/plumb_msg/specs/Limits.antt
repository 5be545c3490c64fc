-- Limits of a message.
use Rattle.std.specs.Prelude.{ℕ}

-- the most bytes of data that a message has
abbrev pub max_data : ℕ
max_data = 1048576
