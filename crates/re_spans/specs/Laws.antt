-- What holds of all searches.
use Rattle.std.specs.Prelude.{◌↔◌, ℕ, List, Option, None, IfSome, IfNone, IsTrue}
use Rattle.re_syntax.specs.Tree.{Tree}
use Rattle.re_syntax.specs.Match.{Matches, IsFirst, IsLast, HasNoSpan}
use Rattle.re_spans.specs.Search.{matches, first_span, last_span}
use Rattle.re_spans.specs.Over.{IsFirstOver, HasNoneOver, match_over}
use Rattle.re_spans.specs.Successive.{successive, FollowOn, AreInOrder}

-- the test of a match tells what a match is
abbrev pub TestTells : Type 0
TestTells = (r : Tree) (t : List ℕ) (i j : ℕ) → IsTrue (matches r t i j) ↔ Matches r t i j

-- a search from the front finds the first span, and none where there is none
abbrev pub FindsTheFirst : Type 0
FindsTheFirst = (r : Tree) (t : List ℕ) (low high : ℕ) (no_null : Option ℕ)
    → IfSome (first_span r t low high no_null) (IsFirst r t low high no_null)
    × IfNone (first_span r t low high no_null) (HasNoSpan r t low high no_null)

-- so does one from the end with the last span
abbrev pub FindsTheLast : Type 0
FindsTheLast = (r : Tree) (t : List ℕ) (low high : ℕ) (no_null : Option ℕ)
    → IfSome (last_span r t low high no_null) (IsLast r t low high no_null)
    × IfNone (last_span r t low high no_null) (HasNoSpan r t low high no_null)

-- and one of a match that has a place
abbrev pub FindsTheMatchOver : Type 0
FindsTheMatchOver = (r : Tree) (t : List ℕ) (at : ℕ) → IfSome (match_over r t at) (IsFirstOver r t at)
    × IfNone (match_over r t at) (HasNoneOver r t at)

-- successive matches follow on one another
abbrev pub SuccessiveMatchesFollow : Type 0
SuccessiveMatchesFollow = (r : Tree) (t : List ℕ) (from end : ℕ) → FollowOn r t end None from (successive r t from end)

-- they lie in order
abbrev pub SuccessiveMatchesAreInOrder : Type 0
SuccessiveMatchesAreInOrder = (r : Tree) (t : List ℕ) (from end : ℕ) → AreInOrder from end (successive r t from end)
