-- How a tree is built from tokens.
use Rattle.std.specs.Prelude.{ℕ, ◌+◌, List, [], ◌∷◌, map, Option, Some, None}
use Rattle.re_syntax.specs.Tree.{Tree, Then, Either, Group, tree, repetition}
use Rattle.re_syntax.specs.declared.scanner.Token.{Token}
use Rattle.re_syntax.specs.declared.scanner.Token.TheVariants.{Leaf, Often, Or, Enter, Leave}
use Rattle.re_syntax.specs.declared.builder.Frame as frame
use Rattle.re_syntax.specs.declared.builder.Builder as builder

-- an open group, or what no group holds: the sides before the last bar, and the parts after it, the last first
pub record Level : Type 0 where
  pub number : ℕ
  pub sides : List Tree
  pub parts : List Tree

-- the open groups round the innermost one, the nearest first, that one, and how many were ever opened
pub record Stack : Type 0 where
  pub outer : List Level
  pub top : Level
  pub groups : ℕ

-- the level of a frame, which has its trees in boxes
abbrev pub level_of : frame.Frame → Level
level_of f = record { number = f.number; sides = map tree f.sides.items; parts = map tree f.parts.items }

-- the open groups of a builder
abbrev pub stack_of : builder.Builder → Stack
stack_of b = record { outer = map level_of b.outer.items; top = level_of b.top; groups = b.groups }

-- the concatenation of the parts, nested to the right
abbrev pub chain : Tree → List Tree → Tree
chain last [] = last
chain last (p ∷ ps) = chain (Then p last) ps

-- the alternation of the sides, nested to the right
abbrev pub choice : Tree → List Tree → Tree
choice last [] = last
choice last (s ∷ ss) = choice (Either s last) ss

-- the tree of sides and of the parts after them; None where a part is missing
abbrev pub whole : List Tree → List Tree → Option Tree
whole sides [] = None
whole sides (p ∷ ps) = Some (choice (chain p ps) sides)

-- the tree of a level; None where a part is missing
abbrev pub level_tree : Level → Option Tree
level_tree l = whole l.sides l.parts

-- a part more
abbrev pub with_part : Level → Tree → Level
with_part l r = record l { parts = r ∷ l.parts }

-- the last part repeated, where there is one
abbrev pub repeat_last : Level → List Tree → (Tree → Tree) → Level
repeat_last l [] f = l
repeat_last l (p ∷ ps) f = record l { parts = f p ∷ ps }

-- the parts become a side, where there are any
abbrev pub end_side : Level → List Tree → Level
end_side l [] = l
end_side l (p ∷ ps) = record l { sides = chain p ps ∷ l.sides; parts = [] }

-- the innermost group ends with this tree, and is a part of the level around it
abbrev pub with_group : Stack → List Level → Option Tree → Stack
with_group z [] r = z
with_group z (l ∷ ls) None = z
with_group z (l ∷ ls) (Some r) = record z { outer = ls; top = with_part l (Group z.top.number r) }

-- what a token makes of it
abbrev pub after_token : Stack → Token → Stack
after_token z (Leaf r) = record z { top = with_part z.top (tree r) }
after_token z (Often k) = record z { top = repeat_last z.top z.top.parts (repetition k) }
after_token z Or = record z { top = end_side z.top z.top.parts }
after_token z Enter = record {
  outer = z.top ∷ z.outer;
  top = record { number = z.groups + 1; sides = []; parts = [] };
  groups = z.groups + 1;
}
after_token z Leave = with_group z z.outer (level_tree z.top)

-- before the first token
abbrev pub nothing : Stack
nothing = record { outer = []; top = record { number = 0; sides = []; parts = [] }; groups = 0 }

-- how many nodes a token adds: each leaf but the first comes with a concatenation or an alternation
abbrev pub weight : Token → ℕ
weight (Leaf r) = 2
weight (Often k) = 1
weight Or = 0
weight Enter = 1
weight Leave = 0
