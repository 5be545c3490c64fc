-- What stands behind a front.
use Rattle.std.specs.Prelude.{ℕ, ◌==◌, List, [], ◌∷◌, Option, Some, None, if◌then◌else◌}

-- the bytes after a front, if they begin so
abbrev pub after_front : List ℕ → List ℕ → Option (List ℕ)
after_front [] bs = Some bs
after_front (f ∷ fs) [] = None
after_front (f ∷ fs) (b ∷ bs) = if b == f then after_front fs bs else None
