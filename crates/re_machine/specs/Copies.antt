-- How a tree is copied, node by node.
use Rattle.std.specs.Prelude.{List, ◌∷◌}
use Rattle.re_syntax.specs.Tree.{Tree, Many, Several, Maybe, Group}
use Rattle.re_syntax.specs.Nodes.{Node, Builds}
use Rattle.re_syntax.specs.Nodes as node
use Rattle.re_machine.specs.declared.copy.Wrap.{Wrap}
use Rattle.re_machine.specs.declared.copy.Wrap.TheVariants.{Often, Repeated, Optional, Numbered}

-- a node makes these trees of those that were made before it
abbrev pub Makes : Node → List Tree → List Tree → Type 0
Makes n old new = (left : List Node) (r : Tree) → Builds (n ∷ left) old r → Builds left new r

-- the tree over a part
abbrev pub wrapped : Wrap → Tree → Tree
wrapped Often a = Many a
wrapped Repeated a = Several a
wrapped Optional a = Maybe a
wrapped (Numbered n) a = Group n a

-- its node
abbrev pub node_over : Wrap → Node
node_over Often = node.Often
node_over Repeated = node.Repeated
node_over Optional = node.Optional
node_over (Numbered n) = node.Numbered n
