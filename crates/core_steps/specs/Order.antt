-- What is said to waiting reads, a row for each kind of file that they read, as one in the order of asking.
use Rattle.std.specs.Prelude.{◌≡◌, ◌≤◌, ℕ, Bool, false, List, [], ◌∷◌, ◌++◌, filter, All, Option, Some, None, nat_lt}
use Rattle.std.specs.Prelude.{nat_le, if◌then◌else◌}
use Rattle.std.specs.List.{position_or_len}
use Rattle.fid_table.specs.declared.session.Waiting.{Waiting}
use Rattle.fid_table.specs.Tables.{Tables, is_waiting}
use Rattle.core_events.specs.declared.response.Response.{Response}

-- ---- rows of what has an age: a lower number is that of an older one

module _ {X : Type 0} (age : X → ℕ) where
  -- those at the front of a row that aren't younger
  abbrev pub older : ℕ → List X → List X
  older n [] = []
  older n (x ∷ xs) = if nat_lt n (age x) then [] else x ∷ older n xs

  -- what stands behind them
  abbrev pub younger : ℕ → List X → List X
  younger n [] = []
  younger n (x ∷ xs) = if nat_lt n (age x) then x ∷ xs else younger n xs

  -- whether a row begins with one that isn't younger
  abbrev pub begins_older : ℕ → List X → Bool
  begins_older n [] = false
  begins_older n (x ∷ xs) = nat_le (age x) n

  -- a row, and each of the others behind those of it that aren't younger
  abbrev pub merged : List X → List X → List X
  merged [] row = row
  merged (y ∷ ys) row = older (age y) row ++ y ∷ merged ys (younger (age y) row)

  -- all rows as one: of the first of each, the oldest comes first
  abbrev pub in_order : List (List X) → List X
  in_order [] = []
  in_order (row ∷ rows) = merged (in_order rows) row

  -- none is older than the one before it, nor than this age
  abbrev pub IsFrom : ℕ → List X → Type 0
  IsFrom n [] = Unit {0}
  IsFrom n (x ∷ xs) = (n ≤ age x) × IsFrom (age x) xs

-- ---- the age of an answer

-- whether a read that waits is the one with this tag
abbrev pub is_here : ℕ → ℕ → Option Waiting → Bool
is_here conn tag None = false
is_here conn tag (Some w) = is_waiting conn tag w

-- the place of the read that is answered among all that wait, which stand in the order of asking
unfoldable pub place_in : Tables → Response → ℕ
place_in tables r = position_or_len (is_waiting r.conn r.message.tag) tables.waiting

-- The answers to waiting reads, a row for each kind of file, as one: the oldest read is answered first, whichever file
-- it reads.
abbrev pub as_asked : Tables → List (List Response) → List Response
as_asked tables rows = in_order (place_in tables) rows

-- ---- laws

-- What a test finds in one row alone stands in the whole as it stood in that row.
abbrev pub KeepsRows : Type 0
KeepsRows =
    (age : Response → ℕ) (test : Response → Bool) (before : List (List Response)) (row : List Response)
    (behind : List (List Response))
    → All (λ other. filter test other ≡ []) before → All (λ other. filter test other ≡ []) behind
    → filter test (in_order age (before ++ row ∷ behind)) ≡ filter test row

-- Where each row is in order, the whole is.
abbrev pub StaysInOrder : Type 0
StaysInOrder =
    (age : Response → ℕ) (n : ℕ) (rows : List (List Response)) → All (IsFrom age n) rows
    → IsFrom age n (in_order age rows)
