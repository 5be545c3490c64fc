-- Sets of several words.
use Rattle.std.specs.Prelude.{◌≡◌, ◌<◌, ◌+◌, ◌-◌, ◌*◌, ◌^◌, ℕ, List, [], ◌∷◌, slice_index, bit_and}

-- the number of which these are the words, the lowest first
abbrev pub value_of : List ℕ → ℕ
value_of [] = 0
value_of (x ∷ xs) = value_of xs * 2 ^ 64 + bit_and x (2 ^ 64 - 1)

-- each of sixteen words is made of two
abbrev pub IsEach : (ℕ → ℕ → ℕ) → List ℕ → List ℕ → List ℕ → Type 0
IsEach op xs ys zs = (k : ℕ) → k < 16 → slice_index zs k ≡ op (slice_index xs k) (slice_index ys k)
