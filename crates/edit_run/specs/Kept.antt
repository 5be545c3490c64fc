-- The machines of a command's expressions.
use Rattle.std.specs.Prelude.{◌≡◌, List, [], ◌∷◌, Option, Some, None}
use Rattle.re_syntax.specs.Tree as expression
use Rattle.re_syntax.specs.declared.re.Re.{Re}
use Rattle.edit_parts.specs.declared.command.Cmd.{Cmd}
use Rattle.edit_parts.specs.Tree.{Action, Substitute, Loops, Block, Commands, Done, Then, action}
use Rattle.edit_run.specs.declared.kept.Kept.{Kept}
use Rattle.edit_run.specs.declared.kept.Inner.{Inner, Nothing, Commands', items-the_row-Kept}

-- none was made, or it is that of the expression
abbrev pub IsFor : expression.Tree → Option Re → Type 0
IsFor r None = Unit {0}
IsFor r (Some machine) = expression.tree machine ≡ r

-- the machines of the commands that a command does
abbrev pub inner_of : Inner → List Kept
inner_of Nothing = []
inner_of (Commands' shape row) = items-the_row-Kept _ row

-- what holds of the first, where there is one
abbrev pub OfFirst : (Kept → Type 0) → List Kept → Type 0
OfFirst P [] = Unit {0}
OfFirst P (k ∷ ks) = P k

-- those behind the first
abbrev pub behind : List Kept → List Kept
behind [] = []
behind (k ∷ ks) = ks

-- A machine that was made is that of the expression which the action searches for, and so are those of the commands
-- that it does.
abbrev mutual
  pub IsKept : Action → Kept → Type 0
  IsKept (Substitute nth re with all) kept = IsFor re kept.machine
  IsKept (Loops kind re addr act) kept = IsFor re kept.machine × OfFirst (IsKept act) (inner_of kept.inner)
  IsKept (Block all) kept = AreMade all (inner_of kept.inner)
  IsKept _ kept = Unit {0}

  -- the same of commands one after another
  pub AreMade : Commands → List Kept → Type 0
  AreMade Done ks = Unit {0}
  AreMade (Then addr act rest) ks = OfFirst (IsKept act) ks × AreMade rest (behind ks)

-- the same of commands of a list
abbrev pub AreKept : List Kept → List Cmd → Type 0
AreKept ks [] = Unit {0}
AreKept ks (c ∷ cs) = OfFirst (IsKept (action c.act)) ks × AreKept (behind ks) cs

-- the same of commands as they stand in a list
pub record AreOf (ks : List Kept) (cs : List Cmd) : Type 0 where
  pub each : AreKept ks cs
