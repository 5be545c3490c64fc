-- The nodes of a tree that a search goes by.
use Rattle.std.specs.Prelude.{◌≡◌, ◌||◌, Bool, true, false, List, [], ◌∷◌, ◌++◌, map}
use Rattle.re_syntax.specs.Tree.{Tree, tree, Letter, AnyLetter, OneOf, LineStart, LineEnd}
use Rattle.re_syntax.specs.Nodes.{Node, Alone, Joined, Chosen, Often, Repeated, Optional, Numbered, node_of, nodes_of}
use Rattle.re_sets.specs.Readings.{read_as}
use Rattle.re_machine.specs.Leaves.{leaves_of}
use Rattle.re_machine.specs.Contexts.{has_anchor}
use Rattle.re_machine.specs.declared.nodes.Nodes.{Nodes}

-- the tree as the search reads it
abbrev pub tree_of : Nodes → Tree
tree_of n = read_as n.back (tree n.re.now)

-- the nodes of the list
abbrev pub list_of : Nodes → List Node
list_of n = map (λ r. node_of (tree r.now)) n.list.items

-- the list has the nodes of the tree
abbrev pub IsListed : Nodes → Type 0
IsListed n = list_of n ≡ nodes_of n.back (tree n.re.now)

-- the node asks for the start or the end of a line
abbrev pub is_anchor : Node → Bool
is_anchor (Alone r) = has_anchor r
is_anchor Joined = false
is_anchor Chosen = false
is_anchor Often = false
is_anchor Repeated = false
is_anchor Optional = false
is_anchor (Numbered n) = false

-- some node of a list does
abbrev pub any_anchor : List Node → Bool
any_anchor [] = false
any_anchor (x ∷ xs) = is_anchor x || any_anchor xs

-- the letter that a node is, where it is one
abbrev pub letter_of : Node → List Tree
letter_of (Alone r) = leaves_of r
letter_of Joined = []
letter_of Chosen = []
letter_of Often = []
letter_of Repeated = []
letter_of Optional = []
letter_of (Numbered n) = []

-- the letters of a list of nodes
abbrev pub letters_of : List Node → List Tree
letters_of [] = []
letters_of (x ∷ xs) = letter_of x ++ letters_of xs
