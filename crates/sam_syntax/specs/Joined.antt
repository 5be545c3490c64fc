-- The command of pieces, which are joined from left to right.
use Rattle.std.specs.Prelude.{Bool, true, false, List, [], ◌∷◌, ◌++◌, Option, Some, None}
use Rattle.re_syntax.specs.Tree as expression
use Rattle.addr_syntax.specs.Tree as address
use Rattle.addr_syntax.specs.Tree.{Missing}
use Rattle.edit_parts.specs.Tree.{Loop, Action, Commands, Command, Nothing, Print, Loops, Block, Done, Then}
use Rattle.edit_parts.specs.Pieces as piece
use Rattle.edit_parts.specs.Pieces.{Piece, Blank, EndsLine, At, Opens, Closes, Does}

-- `x`, `y`, `g` or `v` with its expression, and the address before it
pub record Head : Type 0 where
  pub addr : address.Tree
  pub kind : Loop
  pub re : expression.Tree

-- An open block: the loops that it stands in, the innermost first, its address, and its commands so far.
pub record OpenBlock : Type 0 where
  pub heads : List Head
  pub addr : address.Tree
  pub commands : List Command

-- A line so far.
pub data Line : Type 0 where
  -- behind `{`, where the line must end
  Opened : Line
  -- behind so many loops, the innermost first; none at the beginning of the line
  Looping : (heads : List Head) → Line
  -- and behind an address
  Addressed : (heads : List Head) (a : address.Tree) → Line
  -- behind the line's command
  Ended : (c : Command) → Line

-- All so far: the open blocks, the innermost first, and the line.
pub record Reading : Type 0 where
  pub blocks : List OpenBlock
  pub line : Line

-- What stands before a command on its line.
pub record Start : Type 0 where
  pub heads : List Head
  pub addr : address.Tree

-- a command may begin behind loops, with an address or without
abbrev pub start_of : Line → Option Start
start_of Opened = None
start_of (Looping heads) = Some (record { heads = heads; addr = Missing })
start_of (Addressed heads a) = Some (record { heads = heads; addr = a })
start_of (Ended c) = None

-- the command inside these loops
abbrev pub in_loops : List Head → Command → Command
in_loops [] c = c
in_loops (h ∷ hs) c = in_loops hs (h.addr, Loops h.kind h.re c.0 c.1)

-- the commands of a list
abbrev pub commands_of : List Command → Commands
commands_of [] = Done
commands_of (c ∷ cs) = Then c.0 c.1 (commands_of cs)

-- the command of a line: of one with loops alone `p` inside them, of one with an address nothing at it
abbrev pub command_of : Line → Command
command_of Opened = (Missing, Nothing)
command_of (Looping []) = (Missing, Nothing)
command_of (Looping (h ∷ hs)) = in_loops (h ∷ hs) (Missing, Print)
command_of (Addressed heads a) = in_loops heads (a, Nothing)
command_of (Ended c) = c

-- the block with a command more
abbrev pub with_command : OpenBlock → Command → OpenBlock
with_command b c = record b { commands = b.commands ++ c ∷ [] }

-- the block's commands with that of the line, which isn't one behind `{`
abbrev pub with_line : OpenBlock → Line → OpenBlock
with_line b Opened = b
with_line b line = with_command b (command_of line)

-- the command that a block is
abbrev pub block_of : OpenBlock → Command
block_of b = in_loops b.heads (b.addr, Block (commands_of b.commands))

-- with the address of a command
abbrev pub join_address : List OpenBlock → Line → address.Tree → Option Reading
join_address bs (Looping heads) a = Some (record { blocks = bs; line = Addressed heads a })
join_address bs Opened a = None
join_address bs (Addressed heads b) a = None
join_address bs (Ended c) a = None

-- with a loop, whose command comes next
abbrev pub join_loop : List OpenBlock → Option Start → Loop → expression.Tree → Option Reading
join_loop bs None kind re = None
join_loop bs (Some s) kind re =
    Some (record { blocks = bs; line = Looping (record { addr = s.addr; kind = kind; re = re } ∷ s.heads) })

-- with what the line's command does
abbrev pub join_action : List OpenBlock → Option Start → Action → Option Reading
join_action bs None act = None
join_action bs (Some s) act = Some (record { blocks = bs; line = Ended (in_loops s.heads (s.addr, act)) })

-- with a block that opens
abbrev pub open_block : List OpenBlock → Option Start → Option Reading
open_block bs None = None
open_block bs (Some s) =
    Some (record { blocks = record { heads = s.heads; addr = s.addr; commands = [] } ∷ bs; line = Opened })

-- a line ends inside a block
abbrev pub end_line : List OpenBlock → Line → Option Reading
end_line [] line = None
end_line (b ∷ bs) line = Some (record { blocks = with_line b line ∷ bs; line = Looping [] })

-- a block closes where a line begins, and is the command of the line that it closes on
abbrev pub close_block : List OpenBlock → Line → Option Reading
close_block [] line = None
close_block (b ∷ bs) (Looping []) = Some (record { blocks = bs; line = Ended (block_of b) })
close_block (b ∷ bs) (Looping (h ∷ hs)) = None
close_block (b ∷ bs) Opened = None
close_block (b ∷ bs) (Addressed heads a) = None
close_block (b ∷ bs) (Ended c) = None

-- one piece more; None where no command goes on so
abbrev pub after_piece : Reading → Piece → Option Reading
after_piece r Blank = Some r
after_piece r EndsLine = end_line r.blocks r.line
after_piece r (At a) = join_address r.blocks r.line a
after_piece r (piece.Loops kind re) = join_loop r.blocks (start_of r.line) kind re
after_piece r Opens = open_block r.blocks (start_of r.line)
after_piece r Closes = close_block r.blocks r.line
after_piece r (Does act) = join_action r.blocks (start_of r.line) act

-- before the first piece
abbrev pub begin : Reading
begin = record { blocks = []; line = Looping [] }

-- all pieces, one after another
abbrev pub after_pieces : Option Reading → List Piece → Option Reading
after_pieces r [] = r
after_pieces None (p ∷ ps) = None
after_pieces (Some r) (p ∷ ps) = after_pieces (after_piece r p) ps

-- no block is open
abbrev pub is_done : Reading → Bool
is_done r = ends_here r.blocks r.line
  where
    ends_here : List OpenBlock → Line → Bool
    ends_here [] Opened = false
    ends_here [] (Looping heads) = true
    ends_here [] (Addressed heads a) = true
    ends_here [] (Ended c) = true
    ends_here (b ∷ bs) line = false

-- the command of the whole, all open blocks closed
abbrev pub close_all : List OpenBlock → Line → Command
close_all [] line = command_of line
close_all (b ∷ bs) line = close_all bs (Ended (block_of (with_line b line)))

-- the command of all so far
abbrev pub whole : Reading → Command
whole r = close_all r.blocks r.line
