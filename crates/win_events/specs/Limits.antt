-- Limits of event messages.
use Rattle.std.specs.Prelude.{ℕ}

-- a text of so many runes or more isn't shown in a message
abbrev pub long_text : ℕ
long_text = 256
