-- The matches of a range one after another.
use Rattle.std.specs.Prelude.{◌≡◌, ◌+◌, ◌-◌, ℕ, zero, suc, List, [], ◌∷◌, Option, Some, None}
use Rattle.am_text.specs.declared.range.Range.{Range}
use Rattle.re_syntax.specs.Tree.{Tree}
use Rattle.re_spans.specs.Search.{first_span, IsBetween}

-- the range and those that follow it, if there is one
abbrev pub and_more : Option Range → (Range → List Range) → List Range
and_more None rest = []
and_more (Some found) rest = found ∷ rest found

-- at most n matches up to a place, each from the end of the one before and not null there
abbrev pub successive_from : Tree → List ℕ → ℕ → Option ℕ → ℕ → ℕ → List Range
successive_from r t end no_null at zero = []
successive_from r t end no_null at (suc n) =
    and_more (first_span r t at end no_null) (λ found. successive_from r t end (Some found.q1) found.q1 n)

-- the matches from the one place to the other one after another; there are at most as many as places
unfoldable pub successive : Tree → List ℕ → ℕ → ℕ → List Range
successive r t from end = successive_from r t end None from (end + 1 - from)

-- each is the first match from the end of the one before, but not the null one there, and none follows the last
abbrev pub FollowOn : Tree → List ℕ → ℕ → Option ℕ → ℕ → List Range → Type 0
FollowOn r t end no_null at [] = first_span r t at end no_null ≡ None
FollowOn r t end no_null at (found ∷ rest) =
    (first_span r t at end no_null ≡ Some found) × FollowOn r t end (Some found.q1) found.q1 rest

-- the ranges lie between two places, each at the end of the one before or after it
abbrev pub AreInOrder : ℕ → ℕ → List Range → Type 0
AreInOrder low high [] = Unit {0}
AreInOrder low high (found ∷ rest) = IsBetween low high found × AreInOrder found.q1 high rest
