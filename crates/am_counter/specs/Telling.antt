-- Sets of connections that were replied to.
use Rattle.std.specs.Prelude.{ℕ, Bool, true, List, [], ◌∷◌, slice_set}

-- the set with these connections beside its own
abbrev pub with_told : List Bool → List ℕ → List Bool
with_told are [] = are
with_told are (conn ∷ conns) = with_told (slice_set are conn true) conns
