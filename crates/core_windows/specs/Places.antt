-- Lists whose members stand at a place, or by a number from 1.
use Rattle.std.specs.Prelude.{ℕ, zero, suc, ◌-◌, ◌==◌, List, [], ◌∷◌, slice_get, Option, Some, None, if◌then◌else◌}

-- the list with the member at this place changed, if there is one
abbrev pub at_place : {A : Type 0} → (A → A) → ℕ → List A → List A
at_place f k [] = []
at_place f zero (x ∷ xs) = f x ∷ xs
at_place f (suc k) (x ∷ xs) = x ∷ at_place f k xs

-- what was made at a place, and is there still
abbrev pub when_made : {A : Type 0} → Option (Option A) → Option A
when_made None = None
when_made (Some o) = o

-- what lives at this place, if something does
abbrev pub live_at : {A : Type 0} → List (Option A) → ℕ → Option A
live_at xs k = when_made (slice_get xs k)

-- the same of number n, which stands at the place n - 1
abbrev pub at_number : {A : Type 0} → List (Option A) → ℕ → Option A
at_number xs n = if n == 0 then None else live_at xs (n - 1)

-- no longer there
abbrev pub gone : {A : Type 0} → Option A → Option A
gone o = None
