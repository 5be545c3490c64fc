-- The rows of a search.
use Rattle.std.specs.Prelude.{◌≡◌, ◌<◌, ℕ, Bool, true, false, List, [], ◌∷◌, length, map, slice_index, bit_and, Option}
use Rattle.std.specs.Prelude.{Some, None}
use Rattle.re_sets.specs.Rows.{Row, Seen}
use Rattle.re_sets.specs.Tables.{join_rows, meet, take_away}
use Rattle.re_machine.specs.declared.contexts.Context.{Context}
use Rattle.re_machine.specs.declared.rows.Thread.{Thread}
use Rattle.re_machine.specs.declared.rows.Threads.{Threads}

-- one row alone
abbrev pub one_row : ℕ → ℕ → List Row
one_row start set = record { start = start; set = set } ∷ []

module _ {S : Type 0} (bits : S → ℕ) where
  -- a row, the rows and what is known at a place, of values of the program
  abbrev pub row_of : Thread S → Row
  row_of x = record { start = x.start; set = bits x.set }

  abbrev pub rows_of : List (Thread S) → List Row
  rows_of = map row_of

  abbrev pub seen_of : Threads S → Bool → Seen
  seen_of t enters = record { rows = rows_of t.rows.items; best = t.best; enters = enters }

  -- the letters to which those of a set come, and those that begin, where these take the rune
  abbrev pub move_by : ℕ → Context S → ℕ → ℕ → ℕ
  move_by size c takes x = bit_and (join_rows (slice_index (map bits c.follow.items)) x size) takes

  abbrev pub begin_by : Context S → ℕ → ℕ
  begin_by c takes = bit_and (bits c.first) takes

  abbrev pub starts_of : List (Thread S) → List ℕ
  starts_of = map (λ x. x.start)

  abbrev pub sets_of : List (Thread S) → List ℕ
  sets_of = map (λ x. bits x.set)

  -- the number of the first row that passes, or that none does
  abbrev pub EndsAt : (ℕ → Bool) → List (Thread S) → Option ℕ → Type 0
  EndsAt passes rows None = (m : ℕ) → m < length rows → passes (slice_index (sets_of rows) m) ≡ false
  EndsAt passes rows (Some n) = (n < length rows) × (passes (slice_index (sets_of rows) n) ≡ true)
      × ((m : ℕ) → m < n → passes (slice_index (sets_of rows) m) ≡ false)

  -- the one row comes over a rune from a set to the next, and nothing ends or begins there
  pub record IsAlone (size : ℕ) (c : Context S) (takes set : ℕ) (is_idle : Bool) (next : ℕ) : Type 0 where
    pub goes_on : meet size set (bits c.last) ≡ false
    pub no_null : is_idle ≡ true → c.null ≡ false
    pub next_is : next ≡ move_by size c takes set
    pub some : next ≡ 0 → ⊥
    pub no_other : is_idle ≡ true → take_away (begin_by c takes) next ≡ 0
