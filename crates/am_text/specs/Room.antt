-- A list with room for more members.
use Rattle.std.specs.Prelude.{ℕ, List}

-- the members, and how many more can be put without taking memory
pub record Room (A : Type 0) : Type 0 where
  pub items : List A
  pub spare : ℕ
