-- What a search by tables finds.
use Rattle.std.specs.Prelude.{◌≡◌, ℕ, ◌+◌, ◌-◌, ◌≤◌, List, [], Option, Some, None, length, IfSome, IfNone, nat_le}
use Rattle.std.specs.Prelude.{if◌then◌else◌}
use Rattle.am_text.specs.declared.range.Range.{Range}
use Rattle.re_syntax.specs.Tree.{Tree}
use Rattle.re_syntax.specs.Match.{IsFirst, IsLast, HasNoSpan}
use Rattle.re_spans.specs.Search.{first_span}
use Rattle.re_sets.specs.Readings.{Reading, Spans, forward, backward, mirrored}
use Rattle.re_sets.specs.Numbers.{Leads}
use Rattle.re_sets.specs.Words.{on}
use Rattle.re_sets.specs.Laws.{LeftOut}
use Rattle.re_sets.specs.Rows.{Row, Knows, Follows, Reaches, Finds, search}
use Rattle.re_sets.specs.Tables.{Table, IsTable, text_of}

-- the search by tables finds the first match, and none where there is none
abbrev pub SearchFinds : Type 0
SearchFinds = (r : Tree) (t : Table) (text : List ℕ) (no_null : Option ℕ) (low n : ℕ) → IsTable r t
    → IfSome (search (text_of t (forward text) no_null) n low [] None) (IsFirst r text low (low + n) no_null)
    × IfNone (search (text_of t (forward text) no_null) n low [] None) (HasNoSpan r text low (low + n) no_null)

-- a place counted from the end of a text
abbrev pub from_end : ℕ → Option ℕ → Option ℕ
from_end count None = None
from_end count (Some p) = if nat_le p count then Some (count - p) else None

-- a range counted from the end of a text
abbrev pub range_from_end : ℕ → Range → Range
range_from_end count b = record { q0 = count - b.q1; q1 = count - b.q0 }

-- the same of a match, if one was found
abbrev pub found_from_end : ℕ → Option Range → Option Range
found_from_end count None = None
found_from_end count (Some b) = Some (range_from_end count b)

-- the search backward from `to`, by the tables of the mirrored tree
abbrev pub back : Table → List ℕ → Option ℕ → ℕ → ℕ → Option Range
back t text no_null to n =
    found_from_end (length text) (search (text_of t (backward text) (from_end (length text) no_null)) n
    (length text - to) [] None)

-- the search backward finds the last match, and none where there is none
abbrev pub BackFinds : Type 0
BackFinds = (r : Tree) (t : Table) (text : List ℕ) (no_null : Option ℕ) (start to : ℕ) → start ≤ to → to ≤ length text
    → IsTable (mirrored r) t → IfSome (back t text no_null to (to - start)) (IsLast r text start to no_null)
    × IfNone (back t text no_null to (to - start)) (HasNoSpan r text start to no_null)

-- it is the value by which callers speak of the search
abbrev pub SearchIsValue : Type 0
SearchIsValue = (r : Tree) (t : Table) (text : List ℕ) (no_null : Option ℕ) (low n : ℕ) → IsTable r t
    → search (text_of t (forward text) no_null) n low [] None ≡ first_span r text low (low + n) no_null

-- what a search knows at a place: its rows, and the best match that it has found
abbrev pub Known : Tree → Reading → Option ℕ → ℕ → ℕ → List Row → Option Range → Type 0
Known r w no_null low k rows best = Knows (Spans r w) (LeftOut no_null) (λ x k j. Leads r w (on x) k j) low k k rows
    best

-- what is known at a place of the one row that was followed alone up to there
abbrev pub Followed : Tree → Reading → Option ℕ → ℕ → ℕ → ℕ → ℕ → Type 0
Followed r w no_null low k start set = Follows (Spans r w) (LeftOut no_null) (λ x k j. Leads r w (on x) k j) low k start
    set

-- what a search may be in when it looks at a place
abbrev pub Reached : Tree → Table → Reading → Option ℕ → ℕ → ℕ → List Row → Option Range → Type 0
Reached r t w no_null low k rows best = Reaches (Spans r w) (LeftOut no_null) (λ x k j. Leads r w (on x) k j) low
    (text_of t w no_null) k rows best

-- it is the match that a search finds between two places, or there is none
abbrev pub FindsIn : Tree → Reading → Option ℕ → ℕ → ℕ → Option Range → Type 0
FindsIn r w no_null low high found = Finds (Spans r w) (LeftOut no_null) (λ x k j. Leads r w (on x) k j) low high found
