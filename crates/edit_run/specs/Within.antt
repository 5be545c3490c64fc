-- What is wanted of a text lies inside it.
use Rattle.std.specs.Prelude.{◌≤◌, ℕ, List, [], ◌∷◌, length}
use Rattle.edit_log.specs.declared.types.Edit.{Edit}
use Rattle.sam_address.specs.Value.{IsInside}
use Rattle.edit_run.specs.declared.effects.Effects.{Effects}

-- the changes are inside a text
abbrev pub AreChangesOf : ℕ → List Edit → Type 0
AreChangesOf len [] = Unit {0}
AreChangesOf len (c ∷ cs) = (c.q0 ≤ c.q1) × (c.q1 ≤ len) × AreChangesOf len cs

-- all that is wanted of a text is inside it
pub record IsWithin (t : List ℕ) (e : Effects) : Type 0 where
  pub changes : AreChangesOf (length t) e.changes
  pub last : IsInside t e.last
