-- What a directory read gives.
use Rattle.std.specs.Prelude.{◌≡◌, ◌<◌, ◌≤◌, ◌-◌, ℕ, List, [], ◌∷◌, length, take, nat_le, if◌then◌else◌}
use Rattle.std.specs.List.{flat_map}
use Rattle.ninep_frame.specs.declared.stat.Stat.{Stat}
use Rattle.ninep_frame.specs.Records.{record_of}

-- the records of stats, one after the other
abbrev pub records : List Stat → List ℕ
records stats = flat_map record_of stats

-- the stats from the front whose records fit into so many bytes, up to the first that doesn't
unfoldable pub fitting : ℕ → List Stat → List Stat
fitting room [] = []
fitting room (s ∷ stats) =
    if nat_le (length (record_of s)) room then s ∷ fitting (room - length (record_of s)) stats else []

-- The part is the longest front of the stats whose records have at most so many bytes.
pub record IsLongest (room : ℕ) (stats part : List Stat) : Type 0 where
  pub front : part ≡ take (length part) stats
  pub fits : length (records part) ≤ room
  pub longest : (n : ℕ) → length part < n → n ≤ length stats → room < length (records (take n stats))
