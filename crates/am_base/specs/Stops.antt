-- Why reading to the end stopped.
use Rattle.std.specs.Prelude.{ℕ, ◌+◌, ◌<◌, length, IfSome}
use Rattle.am_base.specs.Outside.{BytesTold, HasRisen, Takes}
use Rattle.am_base.specs.declared.reading.ReadStop.{ReadStop}
use Rattle.am_base.specs.declared.reading.ReadStop.TheVariants.{ReadFault, TooLong, NoMemory}

-- the most bytes that a program's input has
abbrev pub input_limit : ℕ
input_limit = 16777216

-- the most bytes that one read of a source asks for
abbrev pub piece_limit : ℕ
piece_limit = 8192

-- Why reading stopped: the count of faults has risen; limit + 1 bytes were read, so that more than the limit were told;
-- want of memory shows nothing.
abbrev pub StopsFor : ReadStop → BytesTold → BytesTold → ℕ → Type 0
StopsFor ReadFault before now limit = HasRisen before.faults now.faults
StopsFor TooLong before now limit = IfSome before.bytes (λ bytes. limit < length bytes)
    × Takes (limit + 1) before.bytes now.bytes
StopsFor NoMemory before now limit = Unit {0}
