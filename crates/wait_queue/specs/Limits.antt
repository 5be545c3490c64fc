-- Limits of openings.
use Rattle.std.specs.Prelude.{ℕ}

-- the most openings that are ever made over all queues of a kind, whose numbers begin with 1
abbrev pub max_openings : ℕ
max_openings = 4294967295
