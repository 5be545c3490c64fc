-- What an object of the outside tells, and how often it has failed.
use Rattle.std.specs.Prelude.{◌≡◌, ◌⊎◌, ℕ, ◌+◌, ◌-◌, ◌^◌, ◌<◌, ◌≤◌, Bool, true, false, List, ◌++◌, length, take, Option}
use Rattle.std.specs.Prelude.{Some, None, Result, IsErr, OnOk, OnErr, nat_lt, if◌then◌else◌}

-- What a source or a sink tells: the bytes that are left of it or that it holds, where it tells them, how often it has
-- failed, and whether it was ended.
pub record BytesTold : Type 0 where
  pub bytes : Option (List ℕ)
  pub faults : ℕ
  pub is_ended : Bool

-- what an object tells of its bytes, its faults and its end
abbrev pub bytes_told : Option (List ℕ) → ℕ → Bool → BytesTold
bytes_told bytes faults is_ended = record { bytes = bytes; faults = faults; is_ended = is_ended }

-- nothing is told, nothing has failed, and nothing was ended
abbrev pub untold : BytesTold
untold = bytes_told None 0 false

-- an object was ended: what it tells of its bytes is unchanged, and its count of faults never falls
pub record WasEnded (before now : BytesTold) : Type 0 where
  pub ended : now.is_ended ≡ true
  pub bytes : now.bytes ≡ before.bytes
  pub later : before.faults ≤ now.faults

-- What a link tells: the bytes that its source begins with, where it tells them, also after its halves were handed out,
-- whether they were, the path that it was dialled at, where it tells one, and how often it has failed.
pub record LinkTold : Type 0 where
  pub begins : Option (List ℕ)
  pub is_halved : Bool
  pub dialled : Option (List ℕ)
  pub faults : ℕ

-- What a gate tells: its path and slot, where it tells them, how many links it has given, and how often it has failed.
pub record GateTold : Type 0 where
  pub name : Option (List ℕ × ℕ)
  pub given : ℕ
  pub faults : ℕ

-- What a host tells: how many gates and links it has given, and how often it has failed.
pub record HostTold : Type 0 where
  pub given : ℕ
  pub faults : ℕ

-- these bytes, and then those that are told
abbrev pub then_told : List ℕ → Option (List ℕ) → Option (List ℕ)
then_told bytes None = None
then_told bytes (Some rest) = Some (bytes ++ rest)

-- those that are told, and then these bytes
abbrev pub told_then : Option (List ℕ) → List ℕ → Option (List ℕ)
told_then None bytes = None
told_then (Some before) bytes = Some (before ++ bytes)

-- where the bytes are told, they are these
abbrev pub AreTold : Option (List ℕ) → List ℕ → Type 0
AreTold None bytes = Unit {0}
AreTold (Some told) bytes = told ≡ bytes

-- where a name is told, it is this path and slot
abbrev pub IsNamed : Option (List ℕ × ℕ) → List ℕ → ℕ → Type 0
IsNamed None path slot = Unit {0}
IsNamed (Some name) path slot = (name.0 ≡ path) × (name.1 ≡ slot)

-- A count has risen, or stands at its type's end, where it stays.
abbrev pub HasRisen : ℕ → ℕ → Type 0
HasRisen before now = (before < now) ⊎ (2 ^ 64 ≤ now + 1)

-- a count of 64 bits, one further; it stays at its end
abbrev pub one_more : ℕ → ℕ
one_more n = if nat_lt n (2 ^ 64 - 1) then n + 1 else n

-- a count of successes has risen by one where a call has succeeded, and by none where it has failed
abbrev pub Counts : {T E : Type 0} → ℕ → ℕ → Result T E → Type 0
Counts before now result = OnOk result (now ≡ one_more before) × OnErr result (now ≡ before)

-- a count of faults never falls, and a failure has risen it
pub record HasCause {T E : Type 0} (before now : ℕ) (result : Result T E) : Type 0 where
  pub later : before ≤ now
  pub risen : IsErr result → HasRisen before now

-- a front of the bytes was put behind what is told
abbrev pub PutsFront : Option (List ℕ) → List ℕ → Option (List ℕ) → Type 0
PutsFront old bytes new = (n : ℕ) × (n ≤ length bytes) × (new ≡ told_then old (take n bytes))

-- at most n bytes were taken from the front of what is told
abbrev pub TakesAtMost : ℕ → Option (List ℕ) → Option (List ℕ) → Type 0
TakesAtMost n old new = (bytes : List ℕ) × (length bytes ≤ n) × (old ≡ then_told bytes new)

-- so many bytes were taken from the front of what is told
abbrev pub Takes : ℕ → Option (List ℕ) → Option (List ℕ) → Type 0
Takes n old new = (bytes : List ℕ) × (length bytes ≡ n) × (old ≡ then_told bytes new)
