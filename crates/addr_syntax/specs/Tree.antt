-- The trees of addresses.
use Rattle.std.specs.Prelude.{ℕ, ◌+◌, ◌||◌, Bool, false, nat_lt, Option, Some, None}
use Rattle.re_syntax.specs.Tree as expression
use Rattle.addr_syntax.specs.declared.address.Addr.{Addr, Here, Zero, Last, Char, Line, Fore, Back, Plus', Minus'}
use Rattle.addr_syntax.specs.declared.address.Addr.{Comma', Semi', Held-Addr-Plus-0, None', Some'}

-- The tree of an address.
pub data Tree : Type 0 where
  -- a side that isn't written
  Missing : Tree
  -- `.`, `0`, `$`
  Dot : Tree
  Front : Tree
  End : Tree
  -- `#n`, `n`
  RuneAt : (n : ℕ) → Tree
  LineAt : (n : ℕ) → Tree
  -- `/re/`, `?re?`
  Forward : (re : expression.Tree) → Tree
  Backward : (re : expression.Tree) → Tree
  -- `a+b`, `a-b`, `a,b`, `a;b`
  Sum : (a b : Tree) → Tree
  Difference : (a b : Tree) → Tree
  Span : (a b : Tree) → Tree
  MovingSpan : (a b : Tree) → Tree

-- the tree of a value of the program, which has it in boxes
abbrev mutual
  pub tree : Addr → Tree
  tree Here = Dot
  tree Zero = Front
  tree Last = End
  tree (Char n) = RuneAt n
  tree (Line n) = LineAt n
  tree (Fore re) = Forward (expression.tree re)
  tree (Back re) = Backward (expression.tree re)
  tree (Plus' a b) = Sum (side a) (side b)
  tree (Minus' a b) = Difference (side a) (side b)
  tree (Comma' a b) = Span (side a) (side b)
  tree (Semi' a b) = MovingSpan (side a) (side b)

  pub side : Held-Addr-Plus-0 → Tree
  side None' = Missing
  side (Some' p a) = tree a

-- the tree of a side, where there is one
abbrev pub tree_of : Option Addr → Tree
tree_of None = Missing
tree_of (Some a) = tree a

-- how many of `+`, `-`, `,` and `;` there are
abbrev pub operators : Tree → ℕ
operators Missing = 0
operators Dot = 0
operators Front = 0
operators End = 0
operators (RuneAt n) = 0
operators (LineAt n) = 0
operators (Forward re) = 0
operators (Backward re) = 0
operators (Sum a b) = operators a + operators b + 1
operators (Difference a b) = operators a + operators b + 1
operators (Span a b) = operators a + operators b + 1
operators (MovingSpan a b) = operators a + operators b + 1

-- an address may have so many operators
abbrev pub most_operators : ℕ
most_operators = 1024

-- some expression has more than 2,048 nodes
abbrev pub is_large : Tree → Bool
is_large Missing = false
is_large Dot = false
is_large Front = false
is_large End = false
is_large (RuneAt n) = false
is_large (LineAt n) = false
is_large (Forward re) = nat_lt expression.most_nodes (expression.nodes re)
is_large (Backward re) = nat_lt expression.most_nodes (expression.nodes re)
is_large (Sum a b) = is_large a || is_large b
is_large (Difference a b) = is_large a || is_large b
is_large (Span a b) = is_large a || is_large b
is_large (MovingSpan a b) = is_large a || is_large b
