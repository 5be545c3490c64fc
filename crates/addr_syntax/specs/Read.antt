-- What the program has read.
use Rattle.std.specs.Prelude.{◌≡◌, ◌<◌, ◌+◌, ℕ, true, false, Option, Some, None}
use Rattle.addr_syntax.specs.Tree.{Tree, tree, tree_of, operators, most_operators, is_large}
use Rattle.addr_syntax.specs.Joined.{Row, Nothing, Signed, Ended, Reading, begin, whole}
use Rattle.addr_syntax.specs.declared.address.Addr.{Addr}
use Rattle.addr_syntax.specs.declared.address.SynFault.{SynFault}
use Rattle.addr_syntax.specs.declared.address.SynFault.TheVariants as fault
use Rattle.addr_syntax.specs.declared.mark.Separator.{Separator}
use Rattle.addr_syntax.specs.declared.reading.Row as row
use Rattle.addr_syntax.specs.declared.reading.Row.TheVariants as rows
use Rattle.addr_syntax.specs.declared.reading.Ending.{Ending}
use Rattle.addr_syntax.specs.declared.reading.Ending.TheVariants as ending
use Rattle.addr_syntax.specs.declared.reading.Sides.{Sides}
use Rattle.addr_syntax.specs.declared.reading.Built.{Built}
use Rattle.addr_syntax.specs.declared.reading.Built.TheVariants.{Whole, Deep, Large}
use Rattle.addr_syntax.specs.declared.reading.Progress.{Progress}

-- the row of a value of the program
abbrev pub row_of : row.Row → Row
row_of rows.Nothing = Nothing
row_of (rows.Signed a k) = Signed (tree_of a) k
row_of (rows.Ended a) = Ended (tree a)

-- what stands before the last separator, of a value of the program
abbrev pub side_of : Option (Option Addr × Separator) → Option (Tree × Separator)
side_of None = None
side_of (Some (a, k)) = Some (tree_of a, k)

-- both sides of a value of the program
abbrev pub reading_of : Sides → Reading
reading_of s = record { before = side_of s.before; row = row_of s.row }

-- how a row ends
abbrev pub ending_of : Row → Ending
ending_of Nothing = ending.Nothing
ending_of (Signed a k) = ending.Sign
ending_of (Ended a) = ending.Part

-- the program builds while there is room for more operators; past a limit nothing is built any more
abbrev pub Builds : Built → Reading → Type 0
Builds (Whole s room) r =
    (reading_of s ≡ r) × (operators (whole r) + room ≡ most_operators) × (is_large (whole r) ≡ false)
Builds Deep r = (most_operators < operators (whole r)) × (is_large (whole r) ≡ false)
Builds Large r = is_large (whole r) ≡ true

-- what the program keeps of all that it has read
pub record Follows (p : Progress) (r : Reading) : Type 0 where
  pub ends : p.ending ≡ ending_of r.row
  pub builds : Builds p.built r

-- the part that was read; None stands for one with a large expression
abbrev pub IsPart : Option Addr → Tree → Type 0
IsPart (Some p) a = (tree p ≡ a) × (is_large a ≡ false) × (operators a ≡ 0)
IsPart None a = (is_large a ≡ true) × (operators a ≡ 0)

-- how many operators come with a part: a `+` that isn't written stands between two parts
abbrev pub supplied : Ending → ℕ
supplied ending.Nothing = 0
supplied ending.Sign = 0
supplied ending.Part = 1

-- how reading ends
abbrev pub FinishFails : ℕ → Reading → SynFault → Type 0
FinishFails at r (fault.Bad place) = (place ≡ at) × (r ≡ begin)
FinishFails at r fault.Nodes = is_large (whole r) ≡ true
FinishFails at r fault.Deep = (is_large (whole r) ≡ false) × (most_operators < operators (whole r))
FinishFails at r fault.NoMemory = Unit {0}
