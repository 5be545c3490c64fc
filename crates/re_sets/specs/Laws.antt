-- What holds of all paths.
use Rattle.std.specs.Prelude.{◌↔◌, ◌≡◌, ◌≤◌, ◌<◌, ◌+◌, ◌-◌, ◌⊎◌, ℕ, Bool, true, false, List, [], length, Option, Some}
use Rattle.std.specs.Prelude.{None, IsTrue}
use Rattle.re_syntax.specs.Tree.{Tree}
use Rattle.re_syntax.specs.Match.{Matches}
use Rattle.re_sets.specs.Readings.{Reading, Spans, Null, forward, backward, mirrored, read_as}
use Rattle.re_sets.specs.Spots.{Spot, Path, null, first, takes_at}
use Rattle.re_sets.specs.Numbers.{is_letter, number, step, enter, is_end, Leads, Came, run}
use Rattle.re_sets.specs.Words.{on}
use Rattle.re_sets.specs.Rows.{Row, Text, Tells, Knows, seen, search, Finds}
use Rattle.am_text.specs.declared.range.Range.{Range}

-- a span is null, or one letter begins it and a path goes on to its end
abbrev pub IsPath : Tree → Reading → ℕ → ℕ → Type 0
IsPath r w i j = Null (null r (w.here i)) i j ⊎ ((q : Spot) × IsTrue (first r (w.here i) q) × (i < w.count)
    × IsTrue (takes_at r (w.rune i) q) × Path r w q (i + 1) j)

-- a tree's spans are its paths
abbrev pub SpansArePaths : Type 0
SpansArePaths = (r : Tree) (w : Reading) (i j : ℕ) → Spans r w i j ↔ IsPath r w i j

-- so are its matches, over the text read forward
abbrev pub MatchesArePaths : Type 0
MatchesArePaths = (r : Tree) (t : List ℕ) (i j : ℕ) → Matches r t i j ↔ IsPath r (forward t) i j

-- and they are paths of the mirrored tree, over the text read backward
abbrev pub MatchesAreMirroredPaths : Type 0
MatchesAreMirroredPaths = (r : Tree) (t : List ℕ) (i j : ℕ) → i ≤ length t → j ≤ length t
    → Matches r t i j ↔ IsPath (mirrored r) (backward t) (length t - j) (length t - i)

-- what a set leads to, it does by ending here or by its step over the next rune
abbrev pub SetsAreStepped : Type 0
SetsAreStepped = (r : Tree) (w : Reading) (s : ℕ → Bool) (k j : ℕ)
    → Leads r w s k j ↔ (Null (is_end r (w.here k) s) k j ⊎ ((k < w.count)
    × Leads r w (step r (w.here k) (w.rune k) s) (k + 1) j))

-- a span is null, or the set of letters that begins it leads to its end
abbrev pub SetsAreEntered : Type 0
SetsAreEntered = (r : Tree) (w : Reading) (i j : ℕ) → Spans r w i j ↔
    (Null (null r (w.here i)) i j ⊎ ((i < w.count) × Leads r w (enter r (w.here i) (w.rune i)) (i + 1) j))

-- the set after so many runes has the letters by which matches came there
abbrev pub SetsAreReached : Type 0
SetsAreReached = (r : Tree) (w : Reading) (i k : ℕ) (q : Spot) → IsTrue (is_letter r q)
    → IsTrue (run r w i k (number r 0 q)) ↔ Came r w i k q

-- the null span at the place that is left out, if there is one
abbrev pub LeftOut : Option ℕ → ℕ → ℕ → Type 0
LeftOut no_null i j = (i ≡ j) × (no_null ≡ Some i)

-- a search backward reads the mirrored tree, and one forward the tree itself
abbrev pub TreesAreRead : Type 0
TreesAreRead = (r : Tree) → (read_as true r ≡ mirrored r) × (read_as false r ≡ r)
