-- Limits of a journal.
use Rattle.std.specs.Prelude.{ℕ}

-- how many connections there are: they have the numbers below
abbrev pub connection_count : ℕ
connection_count = 64
