-- What each opening has left of its last item.
use Rattle.std.specs.Prelude.{◌==◌, ℕ, Bool, List, [], ◌∷◌, not, filter, if◌then◌else◌}

-- an opening, with what it has left
pub record OpenCarry : Type 0 where
  pub opening : ℕ
  pub carry : List ℕ

-- whether this is that opening's carry
abbrev pub is_of : ℕ → OpenCarry → Bool
is_of opening c = c.opening == opening

-- what an opening has left, nothing where it isn't there
abbrev pub carry_of : List OpenCarry → ℕ → List ℕ
carry_of [] opening = []
carry_of (c ∷ cs) opening = if is_of opening c then c.carry else carry_of cs opening

-- the opening has this left now
abbrev pub set_carry : List OpenCarry → ℕ → List ℕ → List OpenCarry
set_carry [] opening bytes = []
set_carry (c ∷ cs) opening bytes =
    if is_of opening c then record { opening = opening; carry = bytes } ∷ cs else c ∷ set_carry cs opening bytes

-- all but that opening
abbrev pub without_opening : List OpenCarry → ℕ → List OpenCarry
without_opening cs opening = filter (λ c. not (is_of opening c)) cs

-- with nothing left
abbrev pub emptied : OpenCarry → OpenCarry
emptied c = record { opening = c.opening; carry = [] }
