-- The match that has a place.
use Rattle.std.specs.Prelude.{◌<◌, ◌≤◌, ◌+◌, ◌-◌, ◌&&◌, ℕ, List, Option, length, is_some, nat_lt, IsTrue}
use Rattle.am_text.specs.declared.range.Range.{Range}
use Rattle.re_syntax.specs.Tree.{Tree}
use Rattle.re_syntax.specs.Match.{Matches}
use Rattle.re_spans.specs.Places.{Cells, has}
use Rattle.re_spans.specs.Search.{least, greatest, matches, range_of, and_then}

-- a match that isn't null, and that has the place between its ends or at one of them
pub record IsOver (r : Tree) (t : List ℕ) (at i j : ℕ) : Type 0 where
  pub before : i ≤ at
  pub after : at ≤ j
  pub within : j ≤ length t
  pub not_null : i < j
  pub matches : Matches r t i j

-- it begins no later than any other such match, and of those that begin there none is longer
pub record IsFirstOver (r : Tree) (t : List ℕ) (at : ℕ) (found : Range) : Type 0 where
  pub over : IsOver r t at found.q0 found.q1
  pub least : (i j : ℕ) → IsOver r t at i j → found.q0 ≤ i
  pub longest : (j : ℕ) → IsOver r t at found.q0 j → j ≤ found.q1

-- no match has the place
abbrev pub HasNoneOver : Tree → List ℕ → ℕ → Type 0
HasNoneOver r t at = (i j : ℕ) → IsOver r t at i j → ⊥

-- the set has each place at which a match begins that ends at the place or later
abbrev pub StartsOver : Tree → List ℕ → ℕ → Cells → Type 0
StartsOver r t at s = (i j : ℕ) → IsOver r t at i j → IsTrue (has s i)

-- the end of the longest such match from i on
abbrev pub end_over : Tree → List ℕ → ℕ → ℕ → Option ℕ
end_over r t at i = greatest (λ j. nat_lt i j && matches r t i j) at (length t + 1 - at)

-- the match that begins first, and of those that begin there the longest
unfoldable pub match_over : Tree → List ℕ → ℕ → Option Range
match_over r t at =
    let start = least (λ i. is_some (end_over r t at i)) 0 (at + 1) in
    range_of start (and_then start (end_over r t at))
