-- The value of an address in a text.
use Rattle.std.specs.Prelude.{◌≡◌, ◌≤◌, ◌==◌, ◌+◌, ◌-◌, ℕ, List, [], ◌∷◌, Option, Some, None, Result, Ok, Err, length}
use Rattle.std.specs.Prelude.{nat_le, nat_lt, if◌then◌else◌}
use Rattle.am_text.specs.declared.range.Range.{Range}
use Rattle.sam_address.specs.declared.fault.AddrFault.{AddrFault}
use Rattle.sam_address.specs.declared.fault.AddrFault.TheVariants as fault
use Rattle.sam_address.specs.declared.fault.AddrFault.TheVariants.{NoMatch, Order, NoMemory}
use Rattle.addr_syntax.specs.Tree.{Tree, Missing, Dot, Front, End, RuneAt, LineAt, Forward, Backward, Sum, Difference}
use Rattle.addr_syntax.specs.Tree.{Span, MovingSpan}
use Rattle.sam_address.specs.Search.{forward, backward}
use Rattle.sam_address.specs.Lines.{line_starts, starts_from, starts_back, nth, line_at}

-- a range, or the first fault
abbrev pub Outcome : Type 0
Outcome = Result Range AddrFault

-- the null range at a place
abbrev pub null_at : ℕ → Range
null_at p = record { q0 = p; q1 = p }

-- the null range before the rune at a place
abbrev pub rune_at : List ℕ → ℕ → Outcome
rune_at t p = if nat_le p (length t) then Ok (null_at p) else Err fault.Range

-- the line that begins at a place, if there is one
abbrev pub line_from : List ℕ → Option ℕ → Outcome
line_from t None = Err fault.Range
line_from t (Some s) = Ok (line_at t s)

-- the n-th line from a place on; line 0 is the null range there
abbrev pub lines_on : List ℕ → ℕ → ℕ → Outcome
lines_on t p n = if n == 0 then Ok (null_at p) else line_from t (nth (starts_from t p) n)

-- n lines back along these line starts; one step past the last of them is the null range at 0
abbrev pub back_along : List ℕ → List ℕ → ℕ → Outcome
back_along t [] n = if n == 0 then Ok (null_at 0) else Err fault.Range
back_along t (s ∷ ss) n = if n == 0 then Ok (line_at t s) else back_along t ss (n - 1)

-- the n-th line before the one that has a place; line 0 is the null range there
abbrev pub lines_back : List ℕ → ℕ → ℕ → Outcome
lines_back t p n = if n == 0 then Ok (null_at p) else back_along t (starts_back t p) n

-- n runes back from a place
abbrev pub runes_back : ℕ → ℕ → Outcome
runes_back p n = if nat_le n p then Ok (null_at (p - n)) else Err fault.Range

-- the match, or that there is none
abbrev pub match_or_fault : Option Range → Outcome
match_or_fault None = Err NoMatch
match_or_fault (Some r) = Ok r

-- what stands right of `+`, from the end of what stands left of it; alone is its own value, where dot is what stands
-- left of it. A missing one is line 1
abbrev pub after : Tree → Outcome → List ℕ → Range → Range → Outcome
after Missing alone t limit left = lines_on t left.q1 1
after (RuneAt n) alone t limit left = rune_at t (left.q1 + n)
after (LineAt n) alone t limit left = lines_on t left.q1 n
after (Forward r) alone t limit left = match_or_fault (forward r t limit left.q1)
after (Backward r) alone t limit left = match_or_fault (backward r t limit left.q1)
after _ alone t limit left = alone

-- what stands right of `-`, back from the start of what stands left of it, alone being as above
abbrev pub before : Tree → Outcome → List ℕ → Range → Range → Outcome
before Missing alone t limit left = lines_back t left.q0 1
before (RuneAt n) alone t limit left = runes_back left.q0 n
before (LineAt n) alone t limit left = lines_back t left.q0 n
before (Forward r) alone t limit left = match_or_fault (backward r t limit left.q0)
before (Backward r) alone t limit left = match_or_fault (forward r t limit left.q0)
before _ alone t limit left = alone

-- from the start of the one to the end of the other
abbrev pub span_of : Range → Range → Outcome
span_of left right = if nat_lt right.q1 left.q0 then Err Order else Ok (record { q0 = left.q0; q1 = right.q1 })

-- what goes on from a range, where there is no fault
abbrev pub with_range : Outcome → (Range → Outcome) → Outcome
with_range (Ok r) next = next r
with_range (Err e) next = Err e

-- the value of a side, or what stands for a side that isn't written
abbrev pub written_or : Tree → Outcome → Outcome → Outcome
written_or Missing missing own = missing
written_or _ missing own = own

-- the value of an address inside a limit, where dot is this range
abbrev pub value : Tree → List ℕ → Range → Range → Outcome
value Missing t limit dot = Ok dot
value Dot t limit dot = Ok dot
value Front t limit dot = Ok (null_at 0)
value End t limit dot = Ok (null_at (length t))
value (RuneAt n) t limit dot = rune_at t n
value (LineAt n) t limit dot = line_from t (nth (line_starts t) n)
value (Forward r) t limit dot = match_or_fault (forward r t limit dot.q1)
value (Backward r) t limit dot = match_or_fault (backward r t limit dot.q0)
value (Sum a b) t limit dot =
    with_range (value a t limit dot) (λ left. after b (value b t limit left) t limit left)
value (Difference a b) t limit dot =
    with_range (value a t limit dot) (λ left. before b (value b t limit left) t limit left)
value (Span a b) t limit dot =
    with_range (written_or a (Ok (null_at 0)) (value a t limit dot)) (λ left.
    with_range (written_or b (Ok (null_at (length t))) (value b t limit dot)) (λ right. span_of left right))
value (MovingSpan a b) t limit dot =
    with_range (written_or a (Ok (null_at 0)) (value a t limit dot)) (λ left.
    with_range (written_or b (Ok (null_at (length t))) (value b t limit left)) (λ right. span_of left right))

-- the fault is the first one, from left to right; want of memory says nothing
abbrev pub IsFault : AddrFault → Outcome → Type 0
IsFault fault.Range outcome = outcome ≡ Err fault.Range
IsFault NoMatch outcome = outcome ≡ Err NoMatch
IsFault Order outcome = outcome ≡ Err Order
IsFault NoMemory outcome = Unit {0}

-- the range lies inside the text
pub record IsInside (t : List ℕ) (r : Range) : Type 0 where
  pub order : r.q0 ≤ r.q1
  pub within : r.q1 ≤ length t
