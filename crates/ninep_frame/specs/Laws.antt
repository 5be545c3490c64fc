-- Laws of the records and of directory reads.
use Rattle.std.specs.Prelude.{◌≡◌, ℕ, List, ◌++◌, length}
use Rattle.ninep_frame.specs.declared.stat.Stat.{Stat}
use Rattle.ninep_frame.specs.Records.{record_of, record_size, IsRecord, InRange}
use Rattle.ninep_frame.specs.Directories.{fitting, IsLongest}

-- how many bytes a record has
abbrev pub HasSize : Type 0
HasSize = (s : Stat) → length (record_of s) ≡ record_size s

-- where two lists of bytes are equal that begin with records, the stats are one, and so is what follows
abbrev pub PrefixFree : Type 0
PrefixFree =
    (s t : Stat) (front back rest more : List ℕ) → InRange s → InRange t → IsRecord s front → IsRecord t back → front
    ++ rest ≡ back ++ more → (s ≡ t) × (rest ≡ more)

-- what fits is the longest part that does
abbrev pub Longest : Type 0
Longest = (room : ℕ) (stats : List Stat) → IsLongest room stats (fitting room stats)
