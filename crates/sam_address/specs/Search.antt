-- The match that a search inside a limit finds.
use Rattle.std.specs.Prelude.{ℕ, List, Option, Some, None, nat_lt, if◌then◌else◌}
use Rattle.re_syntax.specs.Tree.{Tree}
use Rattle.re_spans.specs.Search.{first_span, last_span}
use Rattle.am_text.specs.declared.range.Range.{Range}

-- a place, or the nearest one inside the limit
abbrev pub nearest : Range → ℕ → ℕ
nearest limit p = if nat_lt p limit.q0 then limit.q0 else (if nat_lt limit.q1 p then limit.q1 else p)

-- the one match, or the other where there is none
abbrev pub or_else : Option Range → Option Range → Option Range
or_else None other = other
or_else (Some r) other = Some r

-- the first match from p on, but not the null one at p; where there is none, the first from the limit's start
abbrev pub forward : Tree → List ℕ → Range → ℕ → Option Range
forward r t limit p =
    or_else (first_span r t (nearest limit p) limit.q1 (Some (nearest limit p))) (first_span r t limit.q0 limit.q1 None)

-- the last match up to p, but not the null one at p; where there is none, the last up to the limit's end
abbrev pub backward : Tree → List ℕ → Range → ℕ → Option Range
backward r t limit p =
    or_else (last_span r t limit.q0 (nearest limit p) (Some (nearest limit p))) (last_span r t limit.q0 limit.q1 None)
