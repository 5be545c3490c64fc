-- Sockets, as their callers see them.
use Rattle.std.specs.Prelude.{ℕ, Bool, List, ◌++◌, codes, decimal}

-- the name of a slot's socket: the path, a full stop and the slot in decimal
abbrev pub name_of_slot : List ℕ → ℕ → List ℕ
name_of_slot path slot = path ++ (codes "." ++ decimal slot)

-- A gate or a host over sockets: how many links or gates it has given, and how often it has failed.
pub record Asked : Type 0 where
  pub given : ℕ
  pub faults : ℕ

-- A link over a socket: whether its halves were handed out, and how often it has failed.
pub record LinkLog : Type 0 where
  pub is_halved : Bool
  pub faults : ℕ
