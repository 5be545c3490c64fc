-- Limits of ports.
use Rattle.std.specs.Prelude.{ℕ}

-- the most ports
abbrev pub max_ports : ℕ
max_ports = 65536

-- the most messages that a port without openings keeps
abbrev pub kept_messages : ℕ
kept_messages = 64
