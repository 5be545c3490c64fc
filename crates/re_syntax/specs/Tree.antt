-- The trees of expressions.
use Rattle.std.specs.Prelude.{ℕ, ◌+◌, Bool, true, false, List}
use Rattle.re_syntax.specs.declared.re.Re.{Re, Lit, Any, Class, Start, End, Cat', Alt', Star', Plus', Opt', Group'}
use Rattle.re_syntax.specs.declared.sign.Repeat.{Repeat}
use Rattle.re_syntax.specs.declared.sign.Repeat.TheVariants.{Star, Plus, Opt}

-- The tree of an expression. A concatenation (`Then`) or an alternation (`Either`) of more than two parts nests to the
-- right;
-- `Many`, `Several` and `Maybe` are `*`, `+` and `?`.
pub data Tree : Type 0 where
  -- one rune: this one, any but newline, or one of a class
  Letter : (rune : ℕ) → Tree
  AnyLetter : Tree
  OneOf : (negated : Bool) (spans : List (ℕ × ℕ)) → Tree
  LineStart : Tree
  LineEnd : Tree
  Then : (a b : Tree) → Tree
  Either : (a b : Tree) → Tree
  Many : (a : Tree) → Tree
  Several : (a : Tree) → Tree
  Maybe : (a : Tree) → Tree
  Group : (number : ℕ) (a : Tree) → Tree

-- the tree of a value of the program, which has it in boxes
abbrev pub tree : Re → Tree
tree (Lit c) = Letter c
tree Any = AnyLetter
tree (Class negated spans) = OneOf negated spans
tree Start = LineStart
tree End = LineEnd
tree (Cat' p a q b) = Then (tree a) (tree b)
tree (Alt' p a q b) = Either (tree a) (tree b)
tree (Star' p a) = Many (tree a)
tree (Plus' p a) = Several (tree a)
tree (Opt' p a) = Maybe (tree a)
tree (Group' n p a) = Group n (tree a)

-- how many nodes the tree has
abbrev pub nodes : Tree → ℕ
nodes (Letter c) = 1
nodes AnyLetter = 1
nodes (OneOf negated spans) = 1
nodes LineStart = 1
nodes LineEnd = 1
nodes (Then a b) = nodes a + nodes b + 1
nodes (Either a b) = nodes a + nodes b + 1
nodes (Many a) = nodes a + 1
nodes (Several a) = nodes a + 1
nodes (Maybe a) = nodes a + 1
nodes (Group n a) = nodes a + 1

-- a tree may have so many nodes
abbrev pub most_nodes : ℕ
most_nodes = 2048

-- the piece, repeated so often
abbrev pub repetition : Repeat → Tree → Tree
repetition Star a = Many a
repetition Plus a = Several a
repetition Opt a = Maybe a

-- an alternation
abbrev pub is_either : Tree → Bool
is_either (Either a b) = true
is_either _ = false

-- neither an alternation nor a concatenation
abbrev pub is_part : Tree → Bool
is_part (Either a b) = false
is_part (Then a b) = false
is_part _ = true
