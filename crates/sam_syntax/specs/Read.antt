-- What the program has read.
use Rattle.std.specs.Prelude.{◌≡◌, ℕ, Bool, true, false, map, Option, Some, None}
use Rattle.re_syntax.specs.Tree as expression
use Rattle.addr_syntax.specs.Tree as address
use Rattle.addr_syntax.specs.declared.address.Limited.{Limited}
use Rattle.addr_syntax.specs.declared.address.Limited.TheVariants as limited
use Rattle.addr_syntax.specs.declared.address.SynFault.{SynFault}
use Rattle.addr_syntax.specs.declared.address.SynFault.TheVariants as fault
use Rattle.edit_parts.specs.Tree.{command}
use Rattle.edit_parts.specs.Kinds.{loop_of}
use Rattle.edit_parts.specs.Limits as part
use Rattle.edit_parts.specs.Limits.{is_large_expression, is_long_address}
use Rattle.edit_parts.specs.Pieces.{Piece, Blank, EndsLine, At, Loops, Opens, Closes, Does}
use Rattle.sam_syntax.specs.Joined.{Head, OpenBlock, Line, Opened, Looping, Addressed, Ended, Reading, Start, is_done}
use Rattle.sam_syntax.specs.Joined.{after_piece, whole}
use Rattle.sam_syntax.specs.Limits.{levels, is_large, is_deep}
use Rattle.sam_syntax.specs.Position.{position_of, position_if}
use Rattle.sam_syntax.specs.Depth.{depth}
use Rattle.sam_syntax.specs.declared.reading.Head as head
use Rattle.sam_syntax.specs.declared.reading.OpenBlock as block
use Rattle.sam_syntax.specs.declared.reading.Start as start
use Rattle.sam_syntax.specs.declared.reading.Sheet as sheet
use Rattle.sam_syntax.specs.declared.reading.Line as line
use Rattle.sam_syntax.specs.declared.position.Position.{Position}
use Rattle.sam_syntax.specs.declared.progress.Limit.TheVariants.{Deep, Large}
use Rattle.sam_syntax.specs.declared.progress.Progress.{Progress}
use Rattle.sam_syntax.specs.declared.progress.Progress.TheVariants.{Whole, Past}
use Rattle.sam_syntax.specs.declared.reading.Line.TheVariants as lines

-- a loop of the program
abbrev pub head_of : head.Head → Head
head_of h = record { addr = address.tree_of h.addr; kind = loop_of h.kind; re = expression.tree h.re }

-- an open block of the program
abbrev pub block_is : block.OpenBlock → OpenBlock
block_is b = record {
  heads = map head_of b.heads.items;
  addr = address.tree_of b.addr;
  commands = map command b.commands.items;
}

-- what stands before a command, of the program
abbrev pub start_is : start.Start → Start
start_is s = record { heads = map head_of s.heads.items; addr = address.tree_of s.addr }

-- a line of the program
abbrev pub line_is : line.Line → Line
line_is lines.Opened = Opened
line_is (lines.Looping heads) = Looping (map head_of heads.items)
line_is (lines.Addressed heads a) = Addressed (map head_of heads.items) (address.tree a)
line_is (lines.Ended c) = Ended (command c)

-- all that a sheet holds
abbrev pub reading_of : sheet.Sheet → Reading
reading_of s = record { blocks = map block_is s.blocks.items; line = line_is s.line }

-- a sheet is the next behind a piece
abbrev pub IsNext : sheet.Sheet → Piece → sheet.Sheet → Type 0
IsNext old p new =
    (after_piece (reading_of old) p ≡ Some (reading_of new))
    × (old.depth ≡ depth (reading_of old) → new.depth ≡ depth (reading_of new))

-- The program builds inside the limits; past one it knows which, and where it is.
abbrev pub Follows : Progress → Reading → Type 0
Follows (Whole s) r =
    (reading_of s ≡ r) × (s.depth ≡ depth r) × (is_large (whole r) ≡ false) × (is_deep (whole r) ≡ false)
Follows (Past at Deep) r = (at ≡ position_of r) × (is_large (whole r) ≡ false) × (is_deep (whole r) ≡ true)
Follows (Past at Large) r = (at ≡ position_of r) × (is_large (whole r) ≡ true)

-- what is read goes on with the piece to a place, where the program has this
abbrev pub GoesTo : Reading → Piece → Position → Progress → Type 0
GoesTo r p next new =
    position_if (after_piece r p) ≡ Some next → (s : Reading) × (after_piece r p ≡ Some s) × Follows new s

-- the program's answer to the piece: what is read with it, or that no command goes on so
abbrev pub Joins : Progress → Piece → Position → Option Progress → Type 0
Joins old p next None = (r : Reading) → Follows old r → after_piece r p ≡ None
Joins old p next (Some new) = (r : Reading) → Follows old r → GoesTo r p next new

-- the sheet as what is read, if there is one
abbrev pub whole_if : Option sheet.Sheet → Option Progress
whole_if None = None
whole_if (Some s) = Some (Whole s)

-- it is told that an expression has more than 2,048 nodes
abbrev pub is_told_large : {T : Type 0} → Limited T → Bool
is_told_large (limited.Whole built) = false
is_told_large limited.Deep = false
is_told_large limited.Large = true

-- an expression of the piece has more than 2,048 nodes
abbrev pub piece_large : Piece → Bool
piece_large Blank = false
piece_large EndsLine = false
piece_large (At a) = address.is_large a
piece_large (Loops kind re) = is_large_expression re
piece_large Opens = false
piece_large Closes = false
piece_large (Does act) = part.is_large act

-- an address of the piece has more than 1,024 operators
abbrev pub piece_long : Piece → Bool
piece_long Blank = false
piece_long EndsLine = false
piece_long (At a) = is_long_address a
piece_long (Loops kind re) = false
piece_long Opens = false
piece_long Closes = false
piece_long (Does act) = part.is_long act

-- how many levels an action has by itself
abbrev pub piece_levels : Piece → ℕ
piece_levels Blank = 0
piece_levels EndsLine = 0
piece_levels (At a) = 0
piece_levels (Loops kind re) = 0
piece_levels Opens = 0
piece_levels Closes = 0
piece_levels (Does act) = levels act

-- which limit is passed
abbrev pub PastFails : Reading → SynFault → Type 0
PastFails r (fault.Bad place) = ⊥
PastFails r fault.Nodes = is_large (whole r) ≡ true
PastFails r fault.Deep = (is_large (whole r) ≡ false) × (is_deep (whole r) ≡ true)
PastFails r fault.NoMemory = Unit {0}

-- how reading ends
abbrev pub FinishFails : ℕ → Reading → SynFault → Type 0
FinishFails at r (fault.Bad place) = (place ≡ at) × (is_done r ≡ false)
FinishFails at r fault.Nodes = (is_done r ≡ true) × (is_large (whole r) ≡ true)
FinishFails at r fault.Deep = (is_done r ≡ true) × (is_large (whole r) ≡ false) × (is_deep (whole r) ≡ true)
FinishFails at r fault.NoMemory = Unit {0}
