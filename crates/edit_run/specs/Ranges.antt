-- The ranges that commands are done for.
use Rattle.std.specs.Prelude.{◌≤◌, ◌==◌, ◌-◌, ℕ, Bool, List, [], ◌∷◌, length, take, drop, if◌then◌else◌}
use Rattle.am_text.specs.declared.range.Range.{Range}
use Rattle.re_syntax.specs.Tree.{Tree}
use Rattle.re_syntax.specs.Match.{Matches}
use Rattle.re_spans.specs.Successive.{successive}
use Rattle.sam_address.specs.Value.{IsInside}

-- the successive matches in a range
abbrev pub matches_in : Tree → List ℕ → Range → List Range
matches_in r t range = successive r t range.q0 range.q1

-- the texts from a place to an end that stand before, between and behind these ranges, null ones too
abbrev pub between : ℕ → ℕ → List Range → List Range
between at end [] = record { q0 = at; q1 = end } ∷ []
between at end (m ∷ ms) = record { q0 = at; q1 = m.q0 } ∷ between m.q1 end ms

-- the n-th range, counted from 1, or all from it on; there is none of number 0
abbrev pub choose : ℕ → Bool → List Range → List Range
choose n all ms = if n == 0 then [] else (if all then drop (n - 1) ms else take 1 (drop (n - 1) ms))

-- matches inside the text
abbrev pub AreMatches : Tree → List ℕ → List Range → Type 0
AreMatches r t [] = Unit {0}
AreMatches r t (m ∷ ms) = (m.q0 ≤ m.q1) × (m.q1 ≤ length t) × Matches r t m.q0 m.q1 × AreMatches r t ms

-- ranges inside the text
abbrev pub AreInside : List ℕ → List Range → Type 0
AreInside t [] = Unit {0}
AreInside t (r ∷ rs) = IsInside t r × AreInside t rs
