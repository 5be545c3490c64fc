-- The groups of a match.
use Rattle.std.specs.Prelude.{◌≡◌, ◌+◌, ◌≤◌, ◌⊎◌, ℕ, zero, suc, List, slice_set, Option, Some, None, replicate}
use Rattle.re_syntax.specs.Match.{Matches, Repeats}
use Rattle.re_syntax.specs.Tree.{Tree, Letter, AnyLetter, OneOf, LineStart, LineEnd, Then, Either, Many, Several, Maybe}
use Rattle.re_syntax.specs.Tree.{Group}
use Rattle.am_text.specs.declared.range.Range.{Range}

-- how many ranges a match has: its own, and those of nine groups
abbrev pub ranges : ℕ
ranges = 10

-- k is the last place at which a span of R may end, where S goes on from it to j
abbrev pub IsLongest : (ℕ → ℕ → Type 0) → (ℕ → ℕ → Type 0) → ℕ → ℕ → ℕ → Type 0
IsLongest R S i j k = R i k × S k j × ((m : ℕ) → R i m → S m j → m ≤ k)

-- a span of so many runes at least
abbrev pub AheadBy : ℕ → (ℕ → ℕ → Type 0) → ℕ → ℕ → Type 0
AheadBy n R i j = (i + n ≤ j) × R i j

-- from i to j by so many pieces, each the longest; last is the piece before them, and out the last of all
abbrev pub Walk : (ℕ → ℕ → Type 0) → ℕ → ℕ → ℕ → Option Range → Option Range → Type 0
Walk R zero i j last out = (i ≡ j) × (out ≡ last)
Walk R (suc n) i j last out =
    (k : ℕ) × IsLongest (AheadBy 1 R) (Repeats R) i j k × Walk R n k j (Some (record { q0 = i; q1 = k })) out

-- a first piece and the pieces after it; last is the last of them
abbrev pub PlusWalk : (ℕ → ℕ → Type 0) → ℕ → ℕ → Range → Type 0
PlusWalk R i j last =
    (k : ℕ) × (n : ℕ) × IsLongest (AheadBy 0 R) (Repeats R) i j k × Walk R n k j (Some (record { q0 = i; q1 = k }))
    (Some last)

-- what a piece sets, where there is one
abbrev pub OfPiece : (ℕ → ℕ → List (Option Range) → List (Option Range) → Type 0) → Option Range → List (Option Range)
    → List (Option Range) → Type 0
OfPiece G None old new = new ≡ old
OfPiece G (Some p) old new = G p.q0 p.q1 old new

-- the match of the tree from i to j sets these groups
abbrev pub Sets : Tree → List ℕ → ℕ → ℕ → List (Option Range) → List (Option Range) → Type 0
Sets (Letter c) t i j old new = new ≡ old
Sets AnyLetter t i j old new = new ≡ old
Sets (OneOf negated spans) t i j old new = new ≡ old
Sets LineStart t i j old new = new ≡ old
Sets LineEnd t i j old new = new ≡ old
Sets (Then a b) t i j old new =
    (k : ℕ) × (mid : List (Option Range)) × IsLongest (AheadBy 0 (Matches a t)) (Matches b t) i j k
    × Sets a t i k old mid × Sets b t k j mid new
Sets (Either a b) t i j old new =
    (Matches a t i j × Sets a t i j old new) ⊎ ((Matches a t i j → ⊥) × Sets b t i j old new)
Sets (Many a) t i j old new =
    (n : ℕ) × (last : Option Range) × Walk (Matches a t) n i j None last × OfPiece (Sets a t) last old new
Sets (Several a) t i j old new =
    (last : Range) × PlusWalk (Matches a t) i j last × Sets a t last.q0 last.q1 old new
Sets (Maybe a) t i j old new =
    (Matches a t i j × Sets a t i j old new) ⊎ ((Matches a t i j → ⊥) × (new ≡ old))
Sets (Group n a) t i j old new =
    (mid : List (Option Range)) × Sets a t i j old mid × (new ≡ slice_set mid n (Some (record { q0 = i; q1 = j })))

-- The ten ranges of a match: the whole span, and then those that its groups set. A group past the ninth has no place.
abbrev pub AreGroups : Tree → List ℕ → Range → List (Option Range) → Type 0
AreGroups r t span all =
    (set : List (Option Range)) × Sets r t span.q0 span.q1 (replicate ranges None) set
    × (all ≡ slice_set set 0 (Some span))
