-- A value with a present state and a kept one, as the types that can keep and take back have it.
use Rattle.std.specs.Prelude.{◌≡◌}

pub record Twice (A : Type 0) : Type 0 where
  pub present : A
  pub kept : A

module _ {A : Type 0} where
  -- both states are this one
  abbrev pub both : A → Twice A
  both a = record { present = a; kept = a }

  -- the two states are equal
  abbrev pub IsSteady : Twice A → Type 0
  IsSteady t = t.present ≡ t.kept
