-- Sets of places.
use Rattle.std.proofs.Common.{◌≡◌, ◌≢◌, ℕ, zero, suc, ◌+◌, ◌-◌, ◌<◌, ◌≤◌, ◌&&◌, Bool, true, false, length, replicate}
use Rattle.std.proofs.Common.{refl, subst, ◌∙◌, inl, inr, arith, get_or, get_or-set_same, get_or-set_other}
use Rattle.std.specs.Prelude.{IsTrue, ◌↔◌, nat_le}
use Rattle.std.proofs.lemmas.Bool.{cases_lt, cases_eq, and_parts, and_from, le-leb, lt-leb, leb-true, both_ways}
use Rattle.std.proofs.lemmas.List.{length-set, length-replicate, get_or_past}
use Rattle.re_spans.specs.Places.{Cells, past, has, none_from, put, put_if}
use Rattle.re_spans.specs.Reached.{AreReached}
use Rattle.re_spans.specs.declared.way.Way.TheVariants.{Back}

none_at : (count k : ℕ) → get_or (replicate count false) k false ≡ false
none_at zero k = refl
none_at (suc n) zero = refl
none_at (suc n) (suc k) = none_at n k

and_no : (a : Bool) → (a && false) ≡ false
and_no true = refl
and_no false = refl

pub none_has : (low count k : ℕ) → has (none_from low count) k ≡ false
none_has low count k = rw (none_at count (k - low)) (and_no (nat_le low k))

pub none_long : (count : ℕ) → length (replicate count false) ≡ count
none_long count = length-replicate count false

-- what the set has lies inside
pub has_within : (s : Cells) (j : ℕ) → IsTrue (has s j) → (s.low ≤ j) × (j < past s)
has_within s j t =
    let both = and_parts (nat_le s.low j) (get_or s.cells (j - s.low) false) t in
    let above : s.low ≤ j = leb-true s.low j both.0 in (
      above,
      elim (cases_lt (j - s.low) (length s.cells)) [
        | inl l ↦ omega (arith, l, above)
        | inr m ↦ absurd (both_ways (get_or s.cells (j - s.low) false) (get_or_past s.cells (j - s.low) false m) both.1)
      ],
    )

pub put_same : (s : Cells) (i : ℕ) (on : Bool) → s.low ≤ i → i < past s → has s i ≡ false → has (put_if s i on) i ≡ on
put_same s i true l p e =
    let inside : i - s.low < length s.cells = omega (arith, l, p) in
    rw (le-leb s.low i l) (get_or-set_same s.cells (i - s.low) true false inside)
put_same s i false l p e = e

pub put_other : (s : Cells) (i j : ℕ) (on : Bool) → s.low ≤ i → j ≢ i → has (put_if s i on) j ≡ has s j
put_other s i j true l ne = elim (cases_lt j s.low) [
  | inl below ↦ rw (lt-leb s.low j below) refl
  | inr above ↦ let other : j - s.low ≢ i - s.low = λ e. ne (omega (arith, e, l, above)) in
      rw (get_or-set_other s.cells (i - s.low) (j - s.low) true false other) refl
]
put_other s i j false l ne = refl

pub put_low : (s : Cells) (i : ℕ) (on : Bool) → (put_if s i on).low ≡ s.low
put_low s i true = refl
put_low s i false = refl

pub put_long : (s : Cells) (i : ℕ) (on : Bool) → length (put_if s i on).cells ≡ length s.cells
put_long s i true = length-set s.cells (i - s.low) true
put_long s i false = refl

-- ---- all of the places

all_at : (count k : ℕ) → k < count → get_or (replicate count true) k false ≡ true
all_at zero k l = absurd (omega (arith, l))
all_at (suc n) zero l = refl
all_at (suc n) (suc k) l = all_at n k (omega (arith, l))

abbrev pub all_from : ℕ → ℕ → Cells
all_from low high = record { low = low; cells = replicate (high + 1 - low) true }

pub all_has : (low high k : ℕ) → low ≤ k → k ≤ high → IsTrue (has (all_from low high) k)
all_has low high k l p = and_from (nat_le low k) (get_or (replicate (high + 1 - low) true) (k - low) false)
    (le-leb low k l) (all_at (high + 1 - low) (k - low) (omega (arith, l, p)))

pub all_past : (low high : ℕ) → low ≤ high → past (all_from low high) ≡ high + 1
all_past low high l = omega (arith, l, length-replicate (high + 1 - low) true)

-- ---- a set of one place

abbrev pub one_of : ℕ → ℕ → ℕ → Cells
one_of low high i = put (none_from low (high + 1 - low)) i

pub one_past : (low high i : ℕ) → low ≤ high → past (one_of low high i) ≡ high + 1
one_past low high i l = omega (
  arith,
  l,
  length-set (replicate (high + 1 - low) false) (i - low) true,
  none_long (high + 1 - low),
)

one_has : (low high i : ℕ) → low ≤ i → i ≤ high → IsTrue (has (one_of low high i) i)
one_has low high i l p = put_same (none_from low (high + 1 - low)) i true l
    (omega (arith, l, p, none_long (high + 1 - low))) (none_has low (high + 1 - low) i)

one_only : (low high i k : ℕ) → low ≤ i → IsTrue (has (one_of low high i) k) → k ≡ i
one_only low high i k l h = elim (cases_eq k i) [
  | inl e ↦ e
  | inr ne ↦ absurd (both_ways (has (one_of low high i) k) (put_other (none_from low (high + 1 - low)) i k true l ne
      ∙ none_has low (high + 1 - low) k) h)
]

-- from where spans lead to the one place
pub one_back : (R : ℕ → ℕ → Type 0) (low high i : ℕ) (out : Cells) → low ≤ i → i ≤ high
    → AreReached Back R (one_of low high i) out → (j : ℕ) → low ≤ j → j ≤ high → IsTrue (has out j) ↔ R j i
one_back R low high i out l p reached j lj pj =
    let at = reached j lj (omega (arith, pj, one_past low high i (omega (arith, l, p)))) in (
      λ h. let x = at.0 h in subst (λ (x : ℕ). R j x) (one_only low high i x.0 l x.1) x.2,
      λ m. at.1 (i, one_has low high i l p, m),
    )
