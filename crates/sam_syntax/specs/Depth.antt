-- How many levels stand round what comes next.
use Rattle.std.specs.Prelude.{ℕ, ◌+◌, List, [], ◌∷◌, length}
use Rattle.sam_syntax.specs.Limits.{levels}
use Rattle.edit_parts.specs.Pieces.{Piece, Blank, EndsLine, At, Loops, Opens, Closes, Does}
use Rattle.sam_syntax.specs.Joined.{Head, OpenBlock, Line, Opened, Looping, Addressed, Ended, Reading}

-- how deep the inside of the innermost block is
abbrev pub round : List OpenBlock → ℕ
round [] = 0
round (b ∷ bs) = round bs + length b.heads + 1

-- the loops that the line is behind
abbrev pub heads_of : Line → List Head
heads_of Opened = []
heads_of (Looping hs) = hs
heads_of (Addressed hs a) = hs
heads_of (Ended c) = []

-- how many levels stand round what comes next
abbrev pub depth : Reading → ℕ
depth r = round r.blocks + length (heads_of r.line)

-- how deep a piece is
abbrev pub level_of : Reading → Piece → ℕ
level_of r (Loops kind re) = depth r + 1
level_of r Opens = depth r + 1
level_of r Blank = 0
level_of r EndsLine = 0
level_of r (At a) = 0
level_of r Closes = 0
level_of r (Does act) = depth r + levels act
