-- Limits of a talk.
use Rattle.std.specs.Prelude.{ℕ}

-- the most bytes of a message that is asked for
abbrev pub asked_msize : ℕ
asked_msize = 8192
