-- The match that a search finds, as a value.
use Rattle.std.specs.Prelude.{◌≤◌, ◌==◌, ◌&&◌, ◌||◌, ◌+◌, ◌-◌, ℕ, zero, suc, Bool, false, not, List, Option, Some, None}
use Rattle.std.specs.Prelude.{is_some, nat_lt, if◌then◌else◌}
use Rattle.am_text.specs.Ascii.{newline}
use Rattle.re_syntax.specs.Tree.{Tree, Letter, AnyLetter, OneOf, LineStart, LineEnd, Then, Either, Many, Several, Maybe}
use Rattle.re_syntax.specs.Tree.{Group}
use Rattle.re_syntax.specs.Match.{one_rune, is_in_class, line_start, line_end}
use Rattle.am_text.specs.declared.range.Range.{Range}

-- the least of n places from low on that passes
abbrev pub least : (ℕ → Bool) → ℕ → ℕ → Option ℕ
least p low zero = None
least p low (suc n) = if p low then Some low else least p (low + 1) n

-- the greatest of them
abbrev pub greatest : (ℕ → Bool) → ℕ → ℕ → Option ℕ
greatest p low zero = None
greatest p low (suc n) = if p (low + n) then Some (low + n) else greatest p low n

-- whether a place from i to j passes
abbrev pub has_place : (ℕ → Bool) → ℕ → ℕ → Bool
has_place p i j = is_some (least p i (j + 1 - i))

-- whether at most n pieces, none of them null, lead from i to j
abbrev pub leads : (ℕ → ℕ → Bool) → ℕ → ℕ → ℕ → Bool
leads piece zero i j = j == i
leads piece (suc n) i j = (j == i) || has_place (λ k. nat_lt i k && (piece i k && leads piece n k j)) i j

-- whether the tree matches the text from i up to j, as a test
abbrev pub matches : Tree → List ℕ → ℕ → ℕ → Bool
matches (Letter c) t i j = one_rune (λ d. d == c) t i j
matches AnyLetter t i j = one_rune (λ d. not (d == newline)) t i j
matches (OneOf negated spans) t i j = one_rune (is_in_class negated spans) t i j
matches LineStart t i j = line_start t i j
matches LineEnd t i j = line_end t i j
matches (Then a b) t i j = has_place (λ k. matches a t i k && matches b t k j) i j
matches (Either a b) t i j = matches a t i j || matches b t i j
matches (Many a) t i j = leads (matches a t) (j - i) i j
matches (Several a) t i j = has_place (λ k. matches a t i k && leads (matches a t) (j - k) k j) i j
matches (Maybe a) t i j = matches a t i j || (j == i)
matches (Group n a) t i j = matches a t i j

-- the null span at the place that is left out, if there is one
abbrev pub is_left_out : Option ℕ → ℕ → ℕ → Bool
is_left_out None i j = false
is_left_out (Some p) i j = (i == p) && (j == p)

-- a match, but not the null one at a place
abbrev pub is_taken : Tree → List ℕ → Option ℕ → ℕ → ℕ → Bool
is_taken r t no_null i j = matches r t i j && not (is_left_out no_null i j)

-- the end of the longest match from i to high
abbrev pub longest_end : Tree → List ℕ → ℕ → Option ℕ → ℕ → Option ℕ
longest_end r t high no_null i = greatest (is_taken r t no_null i) i (high + 1 - i)

-- the beginning of the longest match from low to j
abbrev pub longest_start : Tree → List ℕ → ℕ → Option ℕ → ℕ → Option ℕ
longest_start r t low no_null j = least (λ i. is_taken r t no_null i j) low (j + 1 - low)

-- the range, where both ends are there
abbrev pub range_of : Option ℕ → Option ℕ → Option Range
range_of (Some i) (Some j) = Some (record { q0 = i; q1 = j })
range_of _ _ = None

-- what goes on from a place, if there is one
abbrev pub and_then : Option ℕ → (ℕ → Option ℕ) → Option ℕ
and_then None f = None
and_then (Some i) f = f i

-- the match that begins first between low and high, and of those that begin there the longest
unfoldable pub first_span : Tree → List ℕ → ℕ → ℕ → Option ℕ → Option Range
first_span r t low high no_null =
    let start = least (λ i. is_some (longest_end r t high no_null i)) low (high + 1 - low) in
    range_of start (and_then start (longest_end r t high no_null))

-- the match that ends last between low and high, and of those that end there the longest
unfoldable pub last_span : Tree → List ℕ → ℕ → ℕ → Option ℕ → Option Range
last_span r t low high no_null =
    let end = greatest (λ j. is_some (longest_start r t low no_null j)) low (high + 1 - low) in
    range_of (and_then end (longest_start r t low no_null)) end

-- the range lies between two places
pub record IsBetween (low high : ℕ) (r : Range) : Type 0 where
  pub above : low ≤ r.q0
  pub order : r.q0 ≤ r.q1
  pub below : r.q1 ≤ high
