-- Limits of fids.
use Rattle.std.specs.Prelude.{ℕ}
use Rattle.am_journal.specs.declared.event.Format.{Format}
use Rattle.am_journal.specs.declared.event.Format.TheVariants.{One, Two}

-- the most fids of a connection
abbrev pub max_fids : Format → ℕ
max_fids One = 1024
max_fids Two = 16384
