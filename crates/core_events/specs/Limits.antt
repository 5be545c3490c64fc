-- Limits of reads.
use Rattle.std.specs.Prelude.{ℕ}
use Rattle.am_journal.specs.declared.event.Format.{Format}
use Rattle.am_journal.specs.declared.event.Format.TheVariants.{One, Two}

-- the most reads of a connection that wait
abbrev pub max_reads : Format → ℕ
max_reads One = 64
max_reads Two = 256
