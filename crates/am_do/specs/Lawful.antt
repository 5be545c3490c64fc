-- Lines whose messages have a spelling.
use Rattle.std.specs.Prelude.{◌≡◌, ◌≤◌, ℕ, List, length, Result, Ok, Err}
use Rattle.std.specs.List.{AllByRecursion}
use Rattle.ninep_types.specs.Spelling.{AreNames}
use Rattle.am_do.specs.LineLimits.{most_bytes}
use Rattle.am_do.specs.declared.line.DoLine.{DoLine}
use Rattle.am_do.specs.declared.line.DoLine.TheVariants as line
use Rattle.am_do.specs.declared.reading.LinesFault.{LinesFault}
use Rattle.am_do.specs.declared.reading.LinesFault.TheVariants as fault

-- The names are at most 16 strings, and no more bytes are written than a line may have.
abbrev pub IsLawful : DoLine → Type 0
IsLawful (line.Open fid names mode) = AreNames names
IsLawful (line.Read fid offset count) = Unit {0}
IsLawful (line.Write fid offset bytes) = length bytes ≤ most_bytes
IsLawful (line.Close fid) = Unit {0}

-- all these lines
abbrev pub AreLawful : List DoLine → Type 0
AreLawful lines = AllByRecursion IsLawful lines

-- why an input can't be done: the first line that isn't in the grammar has this number; want of memory shows nothing
abbrev pub IsRefused : LinesFault → Result (List DoLine) ℕ → Type 0
IsRefused (fault.Line k) read = read ≡ Err k
IsRefused fault.NoMemory read = Unit {0}
