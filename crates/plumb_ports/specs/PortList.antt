-- The ports: their names, numbers, and the messages that they keep.
use Rattle.std.specs.Prelude.{ℕ, zero, suc, Bool, List, [], ◌∷◌, ◌++◌, codes, length, map, position, Option, Some, None}
use Rattle.std.specs.Str.{bytes_eq}
use Rattle.std.specs.Option.{is_some}

-- a port, with the messages that it keeps
pub record Port : Type 0 where
  pub name : List ℕ
  pub kept : List (List ℕ)

-- a port of this name that keeps nothing
abbrev pub named : List ℕ → Port
named name = record { name = name; kept = [] }

-- the port that is there from the start
unfoldable pub edit_name : List ℕ
edit_name = codes "edit"

-- whether a port has this name
abbrev pub has_name : List ℕ → Port → Bool
has_name name p = bytes_eq name p.name

-- the names of ports, in their order
abbrev pub names_of : List Port → List (List ℕ)
names_of ps = map (λ p. p.name) ps

-- a port's number is its place, from 0, in the order in which the names were first seen
abbrev pub number_of : List Port → List ℕ → Option ℕ
number_of ps name = position (has_name name) ps

-- whether there is a port of this name
abbrev pub is_there : List Port → List ℕ → Bool
is_there ps name = is_some (number_of ps name)

-- the number that the name has, else the next one
abbrev pub number_or_next : Option ℕ → List Port → ℕ
number_or_next None ps = length ps
number_or_next (Some port) ps = port

-- with a port of this name: a name that is there stays as it is
abbrev pub with_name : Option ℕ → List Port → List ℕ → List Port
with_name None ps name = ps ++ named name ∷ []
with_name (Some port) ps name = ps

-- the messages that a port keeps
abbrev pub kept_of : List Port → ℕ → List (List ℕ)
kept_of [] port = []
kept_of (p ∷ ps) zero = p.kept
kept_of (p ∷ ps) (suc port) = kept_of ps port

-- the port keeps these messages now
abbrev pub with_kept : List Port → ℕ → List (List ℕ) → List Port
with_kept [] port messages = []
with_kept (p ∷ ps) zero messages = record p { kept = messages } ∷ ps
with_kept (p ∷ ps) (suc port) messages = p ∷ with_kept ps port messages
