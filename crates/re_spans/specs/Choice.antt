-- Which of the matches is taken.
use Rattle.std.specs.Prelude.{◌≡◌, ◌==◌, ◌≤◌, ◌+◌, ℕ, Bool, false, IsTrue, Option, Some, None, if◌then◌else◌}
use Rattle.re_spans.specs.Places.{Cells, has}
use Rattle.re_spans.specs.Turns.{place_at}
use Rattle.re_spans.specs.Reached.{Along}
use Rattle.re_spans.specs.declared.way.Way.{Way}

-- the place, if there is one, is this
abbrev pub is_at : Option ℕ → ℕ → Bool
is_at (Some p) i = p == i
is_at None i = false

-- of the numbers up to a bound that have a property, this one is the greatest
pub record IsGreatestOf (P : ℕ → Type 0) (bound d : ℕ) : Type 0 where
  pub inside : d ≤ bound
  pub has : P d
  pub most : (e : ℕ) → e ≤ bound → P e → e ≤ d

-- none of the numbers up to a bound has the property
abbrev pub HasNone : (ℕ → Type 0) → ℕ → Type 0
HasNone P bound = (e : ℕ) → e ≤ bound → P e → ⊥

-- a span leads from a place to the one so many turns on, and that many turns count
abbrev pub LeadsTo : Way → (ℕ → ℕ → Type 0) → ℕ → (ℕ → Type 0) → ℕ → Type 0
LeadsTo way R at Counts d = Along way R at (place_at way at d) × Counts d

-- the null span doesn't count where skip holds
abbrev pub UnlessNull : Bool → ℕ → Type 0
UnlessNull skip d = IsTrue skip → d ≡ 0 → ⊥

-- only places of the set count that aren't below low
abbrev pub AmongThose : Cells → ℕ → ℕ → ℕ → Type 0
AmongThose s low at d = (low ≤ at + d) × IsTrue (has s (at + d))

-- the number in place of the best so far, where on holds
abbrev pub set_if : Option ℕ → Bool → ℕ → Option ℕ
set_if best on d = if on then Some d else best

-- the span isn't the null one at that place
abbrev pub IsAllowed : Option ℕ → ℕ → ℕ → Type 0
IsAllowed no_null i j = i ≡ j → no_null ≡ Some i → ⊥

-- of the spans from i that end at high or before, the one that ends at j is the longest
pub record IsLongestFrom (R : ℕ → ℕ → Type 0) (i high : ℕ) (no_null : Option ℕ) (j : ℕ) : Type 0 where
  pub below : j ≤ high
  pub span : R i j
  pub allowed : IsAllowed no_null i j
  pub longest : (k : ℕ) → k ≤ high → R i k → IsAllowed no_null i k → k ≤ j

-- of the spans up to j that begin at low or later, the one that begins at i is the longest
pub record IsLongestTo (R : ℕ → ℕ → Type 0) (low j : ℕ) (no_null : Option ℕ) (i : ℕ) : Type 0 where
  pub above : low ≤ i
  pub span : R i j
  pub allowed : IsAllowed no_null i j
  pub longest : (k : ℕ) → low ≤ k → R k j → IsAllowed no_null k j → i ≤ k

-- the set has each place at which a span inside these bounds begins
abbrev pub HasStarts : (ℕ → ℕ → Type 0) → ℕ → ℕ → Cells → Type 0
HasStarts R low high s = (i j : ℕ) → low ≤ i → j ≤ high → R i j → IsTrue (has s i)

-- the set has each place at which one ends
abbrev pub HasEnds : (ℕ → ℕ → Type 0) → ℕ → ℕ → Cells → Type 0
HasEnds R low high s = (i j : ℕ) → low ≤ i → j ≤ high → R i j → IsTrue (has s j)
