-- Limits of connections.
use Rattle.std.specs.Prelude.{ℕ}

-- how many unsent replies a connection may have; while it has so many, none of its messages comes
abbrev pub max_replies : ℕ
max_replies = 256
