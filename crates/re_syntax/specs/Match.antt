-- Which spans of a text an expression matches, and which of them is chosen.
use Rattle.std.specs.Prelude.{◌≡◌, ◌==◌, ◌&&◌, ◌||◌, ◌<◌, ◌≤◌, ◌+◌, ◌-◌, ◌⊎◌, ℕ, zero, suc, Bool, not, List, length}
use Rattle.std.specs.Prelude.{slice_index, nat_lt, nat_le, Option, Some, IsTrue, if◌then◌else◌}
use Rattle.std.specs.List.{list_any}
use Rattle.am_text.specs.Ascii.{newline}
use Rattle.re_syntax.specs.Tree.{Tree, Letter, AnyLetter, OneOf, LineStart, LineEnd, Then, Either, Many, Several, Maybe}
use Rattle.re_syntax.specs.Tree.{Group}
use Rattle.am_text.specs.declared.range.Range.{Range}

-- a range of the class has the rune
abbrev pub is_in : List (ℕ × ℕ) → ℕ → Bool
is_in spans c = list_any (λ s. nat_le s.0 c && nat_le c s.1) spans

-- the class has the rune; the negation of a class has no newline
abbrev pub is_in_class : Bool → List (ℕ × ℕ) → ℕ → Bool
is_in_class negated spans c = if negated then not (is_in spans c || (c == newline)) else is_in spans c

-- the span is one rune, and it passes
abbrev pub one_rune : (ℕ → Bool) → List ℕ → ℕ → ℕ → Bool
one_rune passes t i j = nat_lt i (length t) && (j == i + 1) && passes (slice_index t i)

-- a null span before the first rune of a line
abbrev pub line_start : List ℕ → ℕ → ℕ → Bool
line_start t i j = (j == i) && nat_lt i (length t) && ((i == 0) || (slice_index t (i - 1) == newline))

-- a null span at a newline or at the end
abbrev pub line_end : List ℕ → ℕ → ℕ → Bool
line_end t i j = (j == i) && ((i == length t) || (slice_index t i == newline))

-- so many pieces one after another, none of them null
abbrev pub Pieces : (ℕ → ℕ → Type 0) → ℕ → ℕ → ℕ → Type 0
Pieces R zero i j = j ≡ i
Pieces R (suc n) i j = (k : ℕ) × (i < k) × R i k × Pieces R n k j

-- a null span, or a first piece that isn't null and then the same again
abbrev pub Repeats : (ℕ → ℕ → Type 0) → ℕ → ℕ → Type 0
Repeats R i j = (n : ℕ) × Pieces R n i j

-- a span of the one and then one of the other
abbrev pub Joins : (ℕ → ℕ → Type 0) → (ℕ → ℕ → Type 0) → ℕ → ℕ → Type 0
Joins R S i j = (k : ℕ) × R i k × S k j

-- the tree matches the text t from i up to j
abbrev pub Matches : Tree → List ℕ → ℕ → ℕ → Type 0
Matches (Letter c) t i j = IsTrue (one_rune (λ d. d == c) t i j)
Matches AnyLetter t i j = IsTrue (one_rune (λ d. not (d == newline)) t i j)
Matches (OneOf negated spans) t i j = IsTrue (one_rune (is_in_class negated spans) t i j)
Matches LineStart t i j = IsTrue (line_start t i j)
Matches LineEnd t i j = IsTrue (line_end t i j)
Matches (Then a b) t i j = Joins (Matches a t) (Matches b t) i j
Matches (Either a b) t i j = Matches a t i j ⊎ Matches b t i j
Matches (Many a) t i j = Repeats (Matches a t) i j
Matches (Several a) t i j = Joins (Matches a t) (Repeats (Matches a t)) i j
Matches (Maybe a) t i j = Matches a t i j ⊎ (j ≡ i)
Matches (Group n a) t i j = Matches a t i j

-- a match inside bounds, but not the null span at no_null
pub record IsSpan (r : Tree) (t : List ℕ) (low high : ℕ) (no_null : Option ℕ) (i j : ℕ) : Type 0 where
  pub above : low ≤ i
  pub below : j ≤ high
  pub matches : Matches r t i j
  pub allowed : i ≡ j → no_null ≡ Some i → ⊥

-- the span begins no later than any other, and of those that begin there none is longer
pub record IsFirst (r : Tree) (t : List ℕ) (low high : ℕ) (no_null : Option ℕ) (found : Range) : Type 0 where
  pub span : IsSpan r t low high no_null found.q0 found.q1
  pub least : (i j : ℕ) → IsSpan r t low high no_null i j → found.q0 ≤ i
  pub longest : (j : ℕ) → IsSpan r t low high no_null found.q0 j → j ≤ found.q1

-- the span ends no earlier than any other, and of those that end there none is longer
pub record IsLast (r : Tree) (t : List ℕ) (low high : ℕ) (no_null : Option ℕ) (found : Range) : Type 0 where
  pub span : IsSpan r t low high no_null found.q0 found.q1
  pub greatest : (i j : ℕ) → IsSpan r t low high no_null i j → j ≤ found.q1
  pub longest : (i : ℕ) → IsSpan r t low high no_null i found.q1 → found.q0 ≤ i

-- no span is left
abbrev pub HasNoSpan : Tree → List ℕ → ℕ → ℕ → Option ℕ → Type 0
HasNoSpan r t low high no_null = (i j : ℕ) → IsSpan r t low high no_null i j → ⊥
