-- Places in the order of a search.
use Rattle.std.proofs.Common.{◌≡◌, ℕ, ◌<◌, ◌≤◌, ◌⊎◌, ◌+◌, ◌-◌, length, inl, inr, arith}
use Rattle.std.proofs.lemmas.Bool.{cases_lt}
use Rattle.re_spans.specs.Reached.{Along}
use Rattle.re_spans.specs.Places.{Cells, past}
use Rattle.re_spans.specs.Turns.{place_at, StaysInside, first, lower}
use Rattle.re_spans.specs.declared.way.Way.{Way}
use Rattle.re_spans.specs.declared.way.Way.TheVariants.{On, Back}
use Rattle.re_spans.proofs.Ways.{LeadsOn}

abbrev pub Before : Way → ℕ → ℕ → Type 0
Before On k i = k < i
Before Back k i = i < k

abbrev pub NotAfter : Way → ℕ → ℕ → Type 0
NotAfter On k i = k ≤ i
NotAfter Back k i = i ≤ k

-- a search comes from the one place to the other
abbrev pub Next : Way → ℕ → ℕ → Type 0
Next On i n = n ≡ i + 1
Next Back i n = i ≡ n + 1

-- no span goes back on the way
abbrev pub Goes : Way → (ℕ → ℕ → Type 0) → Type 0
Goes way A = (k n : ℕ) → A k n → NotAfter way k n

pub along_goes : (way : Way) (R : ℕ → ℕ → Type 0) → LeadsOn R → Goes way (Along way R)
along_goes On R on k n p = on k n p
along_goes Back R on k n p = on n k p

pub before_or_at : (way : Way) (k n : ℕ) → NotAfter way k n → Before way k n ⊎ (k ≡ n)
before_or_at On k n l = elim (cases_lt k n) [ inl x ↦ inl x | inr y ↦ inr (omega arith) ]
before_or_at Back k n l = elim (cases_lt n k) [ inl x ↦ inl x | inr y ↦ inr (omega arith) ]

pub to_before : (way : Way) (k l n : ℕ) → NotAfter way k l → Before way l n → Before way k n
to_before On k l n p q = omega arith
to_before Back k l n p q = omega arith

pub before_to : (way : Way) (k l n : ℕ) → Before way k l → NotAfter way l n → Before way k n
before_to On k l n p q = omega arith
before_to Back k l n p q = omega arith

pub never : (way : Way) (k n : ℕ) → Before way k n → k ≡ n → ⊥
never On k n p e = omega arith
never Back k n p e = omega arith

pub meet : (way : Way) (k n : ℕ) → NotAfter way k n → NotAfter way n k → n ≡ k
meet On k n p q = omega arith
meet Back k n p q = omega arith

pub same_place : (way : Way) (k : ℕ) → NotAfter way k k
same_place On k = omega arith
same_place Back k = omega arith

pub next_before : (way : Way) (i n : ℕ) → Next way i n → Before way i n
next_before On i n e = omega arith
next_before Back i n e = omega arith

pub before_next : (way : Way) (k i n : ℕ) → Next way i n → Before way k n → Before way k i ⊎ (k ≡ i)
before_next On k i n e l = elim (cases_lt k i) [ inl x ↦ inl x | inr y ↦ inr (omega arith) ]
before_next Back k i n e l = elim (cases_lt i k) [ inl x ↦ inl x | inr y ↦ inr (omega arith) ]

-- ---- turns

pub turns_next : (way : Way) (at n count : ℕ) → StaysInside way at (n + 1) count
    → Next way (place_at way at n) (place_at way at (n + 1))
turns_next On at n count f = omega arith
turns_next Back at n count f = omega (arith, f.0)

pub turns_lower : (way : Way) (at n count : ℕ) → StaysInside way at (n + 1) count
    → lower way (place_at way at n) (place_at way at (n + 1)) < count
turns_lower On at n count f = omega (arith, f)
turns_lower Back at n count f = omega (arith, f.0, f.1)

pub turns_inside : (way : Way) (at n count : ℕ) → StaysInside way at n count → place_at way at n ≤ count
turns_inside On at n count f = f
turns_inside Back at n count f = omega (arith, f.0, f.1)

pub fewer_turns : (way : Way) (at m n count : ℕ) → m ≤ n → StaysInside way at n count → StaysInside way at m count
fewer_turns On at m n count l f = omega (arith, l, f)
fewer_turns Back at m n count l f = (omega (arith, l, f.0), f.1)

pub longer_text : (way : Way) (at n count more : ℕ) → count ≤ more → StaysInside way at n count
    → StaysInside way at n more
longer_text On at n count more l f = omega (arith, l, f)
longer_text Back at n count more l f = (f.0, omega (arith, l, f.1))

pub no_turn : (way : Way) (at : ℕ) → place_at way at 0 ≡ at
no_turn On at = omega arith
no_turn Back at = omega arith

pub turns_before : (way : Way) (at n count : ℕ) → 0 < n → StaysInside way at n count → Before way at (place_at way at n)
turns_before On at n count l f = omega (arith, l)
turns_before Back at n count l f = omega (arith, l, f.0)

-- ---- the turns of a search through a set

pub first_fits : (way : Way) (s : Cells) (n count : ℕ) → n < length s.cells → past s ≤ count + 1
    → StaysInside way (first way s) n count
first_fits On s n count l p = omega (arith, l, p)
first_fits Back s n count l p = (omega (arith, l), omega (arith, l, p))

pub spot_inside : (way : Way) (s : Cells) (n : ℕ) → n < length s.cells → (s.low ≤ place_at way (first way s) n)
    × (place_at way (first way s) n < past s)
spot_inside On s n l = (omega (arith, l), omega (arith, l))
spot_inside Back s n l = (omega (arith, l), omega (arith, l))

pub spot_other : (way : Way) (s : Cells) (m n : ℕ) → m < length s.cells → n < length s.cells
    → place_at way (first way s) m ≡ place_at way (first way s) n → m ≡ n
spot_other On s m n l k e = omega (arith, l, k, e)
spot_other Back s m n l k e = omega (arith, l, k, e)

-- each place of the set has its turn
pub turn_of : (way : Way) (s : Cells) (j : ℕ) → s.low ≤ j → j < past s → (n : ℕ) × (n < length s.cells)
    × (place_at way (first way s) n ≡ j)
turn_of On s j l p = (j - s.low, omega (arith, l, p), omega (arith, l, p))
turn_of Back s j l p = (past s - 1 - j, omega (arith, l, p), omega (arith, l, p))

pub first_is_first : (way : Way) (s : Cells) (k : ℕ) → s.low ≤ k → k < past s
    → Before way k (place_at way (first way s) 0) → ⊥
first_is_first On s k l p b = omega (arith, l, p, b)
first_is_first Back s k l p b = omega (arith, l, p, b)
