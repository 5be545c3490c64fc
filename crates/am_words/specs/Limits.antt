-- Limits of what the words ask for.
use Rattle.std.specs.Prelude.{ℕ}

-- the most rounds of a drill
abbrev pub most_rounds : ℕ
most_rounds = 100000
