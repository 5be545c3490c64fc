-- Limits of the rules.
use Rattle.std.specs.Prelude.{ℕ}

-- the most bytes of a text of rules
abbrev pub max_rule_bytes : ℕ
max_rule_bytes = 262144
