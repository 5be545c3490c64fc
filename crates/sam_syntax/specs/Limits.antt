-- How large commands are.
use Rattle.std.specs.Prelude.{ℕ, ◌+◌, ◌||◌, Bool, nat_lt, max}
use Rattle.addr_syntax.specs.Tree as address
use Rattle.edit_parts.specs.Tree.{Action, Commands, Command, Nothing, Append, Change, Insert, Delete, Substitute, Move}
use Rattle.edit_parts.specs.Tree.{Copy, Print, LineNumber, RuneNumber, Loops, Block, Asks, Done, Then}
use Rattle.edit_parts.specs.Limits as part
use Rattle.edit_parts.specs.Limits.{is_long_address}

-- how many blocks and loops stand in one another
abbrev mutual
  pub levels : Action → ℕ
  levels Nothing = 0
  levels (Append t) = 0
  levels (Change t) = 0
  levels (Insert t) = 0
  levels Delete = 0
  levels (Substitute n re with all) = 0
  levels (Move to) = 0
  levels (Copy to) = 0
  levels Print = 0
  levels LineNumber = 0
  levels RuneNumber = 0
  levels (Loops kind re addr act) = levels act + 1
  levels (Block all) = most_levels all + 1
  levels (Asks kind command) = 0

  pub most_levels : Commands → ℕ
  most_levels Done = 0
  most_levels (Then addr act rest) = max (levels act) (most_levels rest)

-- some expression of the command, in an address too, has more than 2,048 nodes
abbrev pub is_large : Command → Bool
is_large c = address.is_large c.0 || part.is_large c.1

-- some address of the command has more than 1,024 operators
abbrev pub is_long : Command → Bool
is_long c = is_long_address c.0 || part.is_long c.1

-- a command may have so many levels
abbrev pub level_limit : ℕ
level_limit = 32

-- there are more than 32 levels, or an address has more than 1,024 operators
abbrev pub is_deep : Command → Bool
is_deep c = nat_lt level_limit (levels c.1) || is_long c
