-- The groups of a match as a value.
use Rattle.std.specs.Prelude.{ℕ, zero, suc, ◌+◌, ◌-◌, Bool, ◌&&◌, ◌==◌, List, slice_set, replicate, Option, Some, None}
use Rattle.std.specs.Prelude.{nat_le, if◌then◌else◌}
use Rattle.am_text.specs.declared.range.Range.{Range}
use Rattle.re_syntax.specs.Groups.{ranges}
use Rattle.re_syntax.specs.Tree.{Tree, Letter, AnyLetter, OneOf, LineStart, LineEnd, Then, Either, Many, Several, Maybe}
use Rattle.re_syntax.specs.Tree.{Group}
use Rattle.re_spans.specs.Search.{greatest, leads, matches}

-- the range between two places
abbrev pub span : ℕ → ℕ → Range
span i j = record { q0 = i; q1 = j }

-- pieces that aren't null lead from i to j
abbrev pub goes_on : (ℕ → ℕ → Bool) → ℕ → ℕ → Bool
goes_on piece i j = leads piece (j - i) i j

-- the last place, by n or more after i, at which a first part may end and a second one goes on to j
abbrev pub seam : ℕ → (ℕ → ℕ → Bool) → (ℕ → ℕ → Bool) → ℕ → ℕ → Option ℕ
seam n first second i j = greatest (λ k. nat_le (i + n) k && (first i k && second k j)) i (j + 1 - i)

-- what goes on from a seam, if there is one
module _ {A : Type 0} where
  abbrev pub at_seam : A → (ℕ → A) → Option ℕ → A
  at_seam other go None = other
  at_seam other go (Some k) = go k

-- the last of the pieces from i to j, where each that isn't the first is the longest; last is the piece before i
abbrev pub last_piece : (ℕ → ℕ → Bool) → ℕ → ℕ → ℕ → Option Range → Option Range
last_piece piece zero i j last = last
last_piece piece (suc n) i j last =
    if i == j then last else at_seam last (λ k. last_piece piece n k j (Some (span i k)))
    (seam 1 piece (goes_on piece) i j)

-- what a piece sets, where there is one
abbrev pub of_piece : (ℕ → ℕ → List (Option Range) → List (Option Range)) → Option Range → List (Option Range)
    → List (Option Range)
of_piece sets None old = old
of_piece sets (Some p) old = sets p.q0 p.q1 old

-- the groups after the match of the tree from i to j. Of two parts the first takes all that it can, of two sides that
-- match the first counts, and of pieces the last sets the groups.
abbrev pub sets : Tree → List ℕ → ℕ → ℕ → List (Option Range) → List (Option Range)
sets (Letter c) t i j old = old
sets AnyLetter t i j old = old
sets (OneOf negated spans) t i j old = old
sets LineStart t i j old = old
sets LineEnd t i j old = old
sets (Then a b) t i j old = at_seam old (λ k. sets b t k j (sets a t i k old)) (seam 0 (matches a t) (matches b t) i j)
sets (Either a b) t i j old = if matches a t i j then sets a t i j old else sets b t i j old
sets (Many a) t i j old = of_piece (sets a t) (last_piece (matches a t) (j - i) i j None) old
sets (Several a) t i j old =
    at_seam old (λ k. of_piece (sets a t) (last_piece (matches a t) (j - k) k j (Some (span i k))) old)
    (seam 0 (matches a t) (goes_on (matches a t)) i j)
sets (Maybe a) t i j old = if matches a t i j then sets a t i j old else old
sets (Group n a) t i j old = slice_set (sets a t i j old) n (Some (span i j))

-- the ten ranges of a match: the whole one, and those of its groups
unfoldable pub groups_of : Tree → List ℕ → Range → List (Option Range)
groups_of r t s = slice_set (sets r t s.q0 s.q1 (replicate ranges None)) 0 (Some s)
