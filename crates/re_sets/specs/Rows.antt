-- A search by rows, each a start and the set of letters to which matches from it came.
use Rattle.std.specs.Prelude.{◌≡◌, ◌<◌, ◌≤◌, ◌+◌, ◌-◌, ◌==◌, ◌⊎◌, ℕ, zero, suc, Bool, true, false, List, [], ◌∷◌, ◌++◌}
use Rattle.std.specs.Prelude.{map, Option, Some, None, IsTrue, if◌then◌else◌}
use Rattle.am_text.specs.declared.range.Range.{Range}

-- where matches begin, and the letters by which they came here
pub record Row : Type 0 where
  pub start : ℕ
  pub set : ℕ

-- each of the rows is such a one
abbrev pub AllRows : (Row → Type 0) → List Row → Type 0
AllRows P [] = Unit {0}
AllRows P (x ∷ xs) = P x × AllRows P xs

-- one of the rows is
abbrev pub AnyRow : (Row → Type 0) → List Row → Type 0
AnyRow P [] = ⊥
AnyRow P (x ∷ xs) = P x ⊎ AnyRow P xs

-- each row begins before those after it
abbrev pub AreSorted : List Row → Type 0
AreSorted [] = Unit {0}
AreSorted (x ∷ xs) = AllRows (λ y. x.start < y.start) xs × AreSorted xs

-- the row stands before those that were found, if any were
abbrev pub with_row : Row → Option (ℕ × List Row) → Option (ℕ × List Row)
with_row x None = None
with_row x (Some p) = Some (p.0, x ∷ p.1)

-- the start of the first row at whose letters a match may end, and the rows up to that one
abbrev pub ended : (ℕ → Bool) → List Row → Option (ℕ × List Row)
ended e [] = None
ended e (x ∷ xs) = if e x.set then Some (x.start, x ∷ []) else with_row x (ended e xs)

-- each letter stays in the first row alone that has it
abbrev pub parted : (ℕ → ℕ → ℕ) → (ℕ → ℕ → ℕ) → List Row → ℕ → List Row
parted minus union [] seen = []
parted minus union (x ∷ xs) seen = record { start = x.start; set = minus x.set seen } ∷ parted minus union xs
    (union seen x.set)

-- what is known at a place once the matches that end there are seen, and whether a row may begin there
pub record Seen : Type 0 where
  pub rows : List Row
  pub best : Option Range
  pub enters : Bool

-- the same at the place k, by the first row that ends there
abbrev pub seen_at : ℕ → Bool → List Row → Option Range → Option (ℕ × List Row) → Seen
seen_at k null rows best (Some p) = record { rows = p.1; best = Some (record { q0 = p.0; q1 = k }); enters = false }
seen_at k null rows (Some b) None = record { rows = rows; best = Some b; enters = false }
seen_at k null rows None None = record {
  rows = rows;
  best = if null then Some (record { q0 = k; q1 = k }) else None;
  enters = true;
}

-- the row that begins at the place k with these letters, where one may
abbrev pub new_row : Bool → ℕ → ℕ → List Row
new_row enters k set = if enters then record { start = k; set = set } ∷ [] else []

-- the rows after one rune more, of which f is the step of a set
abbrev pub move_rows : (ℕ → ℕ) → List Row → List Row
move_rows f [] = []
move_rows f (x ∷ xs) = record { start = x.start; set = f x.set } ∷ move_rows f xs

-- what a search needs to know of the text: which sets end here, whether the null text counts, the step of a set, and
-- the set that begins here
pub record Text : Type 0 where
  pub ends : ℕ → ℕ → Bool
  pub null : ℕ → Bool
  pub move : ℕ → ℕ → ℕ
  pub begin : ℕ → ℕ
  pub minus : ℕ → ℕ → ℕ
  pub union : ℕ → ℕ → ℕ

-- what is known at a place, as the text tells it
abbrev pub seen : Text → ℕ → List Row → Option Range → Seen
seen t k rows best = seen_at k (t.null k) rows best (ended (t.ends k) rows)

-- the rows at the next place
abbrev pub onward : Text → ℕ → Seen → List Row
onward t k s = parted t.minus t.union (move_rows (t.move k) s.rows ++ new_row s.enters k (t.begin k)) 0

-- the rows that have a letter
abbrev pub solid : List Row → List Row
solid [] = []
solid (x ∷ xs) = if x.set == 0 then solid xs else x ∷ solid xs

-- n places more
abbrev pub search : Text → ℕ → ℕ → List Row → Option Range → Option Range
search t zero k rows best = (seen t k rows best).best
search t (suc n) k rows best = search t n (k + 1) (onward t k (seen t k rows best)) (seen t k rows best).best

-- ---- what is known

-- the best match begins before this place
abbrev pub Beats : Option Range → ℕ → Type 0
Beats None i = ⊥
Beats (Some b) i = b.q0 < i

-- the best match begins before this span, or there and is as long
abbrev pub Covers : Option Range → ℕ → ℕ → Type 0
Covers None i j = ⊥
Covers (Some b) i j = (b.q0 < i) ⊎ ((b.q0 ≡ i) × (j ≤ b.q1))

-- the best match is such a one, if there is one
abbrev pub OnBest : (Range → Type 0) → Option Range → Type 0
OnBest P None = Unit {0}
OnBest P (Some b) = P b

-- the spans S, of which those that A leaves out don't count, and where sets lead
module _ (S A : ℕ → ℕ → Type 0) (L : ℕ → ℕ → ℕ → Type 0) (low : ℕ) where
  pub record Knows (k closed : ℕ) (rows : List Row) (best : Option Range) : Type 0 where
    pub sorted : AreSorted rows
    pub sound : AllRows (λ x. (low ≤ x.start) × (x.start < k) × ((j : ℕ) → L x.set k j → S x.start j)) rows
    pub before : OnBest (λ b. AllRows (λ x. x.start ≤ b.q0) rows) best
    pub is_span : OnBest (λ b. (low ≤ b.q0) × (b.q0 ≤ b.q1) × (b.q1 < closed) × S b.q0 b.q1 × (A b.q0 b.q1 → ⊥)) best
    pub opened : (i j : ℕ) → low ≤ i → i < k → k ≤ j → S i j → Beats best i
        ⊎ AnyRow (λ x. (x.start ≤ i) × L x.set k j) rows
    pub done : (i j : ℕ) → low ≤ i → j < closed → S i j → (A i j → ⊥) → Covers best i j

  -- the text tells of the spans
  pub record Tells (t : Text) : Type 0 where
    pub on : (i j : ℕ) → S i j → i ≤ j
    pub ends_to : (x k : ℕ) → L x k k → IsTrue (t.ends k x)
    pub ends_from : (x k : ℕ) → IsTrue (t.ends k x) → L x k k
    pub null_to : (k : ℕ) → S k k → (A k k → ⊥) → IsTrue (t.null k)
    pub null_from : (k : ℕ) → IsTrue (t.null k) → S k k × (A k k → ⊥)
    pub left_out : (i j : ℕ) → A i j → i ≡ j
    pub move_to : (x k j : ℕ) → k < j → L x k j → L (t.move k x) (k + 1) j
    pub move_from : (x k j : ℕ) → L (t.move k x) (k + 1) j → L x k j
    pub begin_to : (k j : ℕ) → k < j → S k j → L (t.begin k) (k + 1) j
    pub begin_from : (k j : ℕ) → L (t.begin k) (k + 1) j → S k j
    pub part : (x y k j : ℕ) → L x k j → L (t.minus x y) k j ⊎ L y k j
    pub minus_in : (x y k j : ℕ) → L (t.minus x y) k j → L x k j
    pub union_cases : (x y k j : ℕ) → L (t.union x y) k j → L x k j ⊎ L y k j
    pub empty : (k j : ℕ) → L 0 k j → ⊥

  -- one row followed alone, whatever begins after it: matches that begin no later lead from its letters, and none ended
  pub record Follows (k start set : ℕ) : Type 0 where
    pub above : low ≤ start
    pub begun : start < k
    pub sound : (j : ℕ) → L set k j → S start j
    pub opened : (i j : ℕ) → low ≤ i → i ≤ start → k ≤ j → S i j → (start ≤ i) × L set k j
    pub done : (i j : ℕ) → low ≤ i → i ≤ start → j < k → S i j → (A i j → ⊥) → ⊥

  -- these rows and this match are all that is known, or the one row was followed alone to a place where it ends
  abbrev pub Reaches : Text → ℕ → List Row → Option Range → Type 0
  Reaches t k rows best = Knows k k rows best ⊎ ((x : Row) × (rows ≡ x ∷ []) × Follows k x.start x.set
      × (t.ends k x.set ≡ true))

  -- it begins first, and of those it is the longest
  pub record IsBest (high : ℕ) (b : Range) : Type 0 where
    pub above : low ≤ b.q0
    pub below : b.q1 ≤ high
    pub span : S b.q0 b.q1
    pub allowed : A b.q0 b.q1 → ⊥
    pub least : (i j : ℕ) → low ≤ i → j ≤ high → S i j → (A i j → ⊥) → (b.q0 < i) ⊎ ((b.q0 ≡ i) × (j ≤ b.q1))

  abbrev pub Finds : ℕ → Option Range → Type 0
  Finds high None = (i j : ℕ) → low ≤ i → j ≤ high → S i j → (A i j → ⊥) → ⊥
  Finds high (Some b) = IsBest high b
