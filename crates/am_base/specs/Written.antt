-- What an output got of a text.
use Rattle.std.specs.Prelude.{◌≡◌, ◌⊎◌, ℕ, List}
use Rattle.am_base.specs.Outside.{told_then, PutsFront, HasRisen}
use Rattle.am_base.specs.Seen.{Seen}

-- all of a text was put
abbrev pub IsWhole : Seen → List ℕ → Type 0
IsWhole o text = o.now.bytes ≡ told_then o.before.bytes text

-- a front of a text was put, and the count of faults has risen
pub record IsCut (o : Seen) (text : List ℕ) : Type 0 where
  pub front : PutsFront o.before.bytes text o.now.bytes
  pub risen : HasRisen o.before.faults o.now.faults

-- a text was put, whole, or cut where the count of faults has risen
abbrev pub IsPut : Seen → List ℕ → Type 0
IsPut o text = IsWhole o text ⊎ IsCut o text
