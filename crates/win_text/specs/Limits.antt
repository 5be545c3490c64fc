-- Limits of a body.
use Rattle.std.specs.Prelude.{ℕ}

-- the most runes of a body
abbrev pub body_runes : ℕ
body_runes = 16777216
