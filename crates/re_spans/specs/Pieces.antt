-- Pieces of a span.
use Rattle.std.specs.Prelude.{◌≤◌, ◌↔◌, ℕ, IsTrue}
use Rattle.am_text.specs.declared.range.Range.{Range}
use Rattle.re_spans.specs.Places.{Cells, has}

-- the range is a span of R and ends no later than j
abbrev pub IsPiece : (ℕ → ℕ → Type 0) → ℕ → Range → Type 0
IsPiece R j p = (p.q0 ≤ p.q1) × (p.q1 ≤ j) × R p.q0 p.q1

-- the set tells from which of the places from i to j a span leads to j
abbrev pub AreStartsOf : (ℕ → ℕ → Type 0) → ℕ → ℕ → Cells → Type 0
AreStartsOf R i j s = (k : ℕ) → i ≤ k → k ≤ j → IsTrue (has s k) ↔ R k j

-- a span that ends at low or later
abbrev pub Past : ℕ → (ℕ → ℕ → Type 0) → ℕ → ℕ → Type 0
Past low R i j = (low ≤ j) × R i j
