-- Which limits an action passes.
use Rattle.std.specs.Prelude.{◌||◌, Bool, false, nat_lt}
use Rattle.re_syntax.specs.Tree as expression
use Rattle.addr_syntax.specs.Tree as address
use Rattle.edit_parts.specs.Tree.{Action, Commands, Nothing, Append, Change, Insert, Delete, Substitute, Move, Copy}
use Rattle.edit_parts.specs.Tree.{Print, LineNumber, RuneNumber, Loops, Block, Asks, Done, Then}

-- an expression has more than 2,048 nodes
abbrev pub is_large_expression : expression.Tree → Bool
is_large_expression re = nat_lt expression.most_nodes (expression.nodes re)

-- an address has more than 1,024 operators
abbrev pub is_long_address : address.Tree → Bool
is_long_address a = nat_lt address.most_operators (address.operators a)

-- some expression has more than 2,048 nodes
abbrev mutual
  pub is_large : Action → Bool
  is_large Nothing = false
  is_large (Append t) = false
  is_large (Change t) = false
  is_large (Insert t) = false
  is_large Delete = false
  is_large (Substitute n re with all) = is_large_expression re
  is_large (Move a) = address.is_large a
  is_large (Copy a) = address.is_large a
  is_large Print = false
  is_large LineNumber = false
  is_large RuneNumber = false
  is_large (Loops kind re a act) = is_large_expression re || address.is_large a || is_large act
  is_large (Block all) = some_large all
  is_large (Asks kind t) = false

  pub some_large : Commands → Bool
  some_large Done = false
  some_large (Then a act rest) = address.is_large a || is_large act || some_large rest

-- some address has more than 1,024 operators
abbrev mutual
  pub is_long : Action → Bool
  is_long Nothing = false
  is_long (Append t) = false
  is_long (Change t) = false
  is_long (Insert t) = false
  is_long Delete = false
  is_long (Substitute n re with all) = false
  is_long (Move a) = is_long_address a
  is_long (Copy a) = is_long_address a
  is_long Print = false
  is_long LineNumber = false
  is_long RuneNumber = false
  is_long (Loops kind re a act) = is_long_address a || is_long act
  is_long (Block all) = some_long all
  is_long (Asks kind t) = false

  pub some_long : Commands → Bool
  some_long Done = false
  some_long (Then a act rest) = is_long_address a || is_long act || some_long rest
