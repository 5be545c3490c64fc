-- The nodes of a tree as a list, and the tree that such a list builds.
use Rattle.std.specs.Prelude.{◌≡◌, ℕ, Bool, List, [], ◌∷◌, ◌++◌, if◌then◌else◌}
use Rattle.re_syntax.specs.Tree.{Tree, Letter, AnyLetter, OneOf, LineStart, LineEnd, Then, Either, Many, Several, Maybe}
use Rattle.re_syntax.specs.Tree.{Group}

-- a node without its parts: a tree that has none, or what joins or wraps its parts
pub data Node : Type 0 where
  Alone : (r : Tree) → Node
  Joined : Node
  Chosen : Node
  Often : Node
  Repeated : Node
  Optional : Node
  Numbered : (n : ℕ) → Node

-- the node of a tree itself
abbrev pub node_of : Tree → Node
node_of (Then a b) = Joined
node_of (Either a b) = Chosen
node_of (Many a) = Often
node_of (Several a) = Repeated
node_of (Maybe a) = Optional
node_of (Group n a) = Numbered n
node_of (Letter c) = Alone (Letter c)
node_of AnyLetter = Alone AnyLetter
node_of (OneOf negated spans) = Alone (OneOf negated spans)
node_of LineStart = Alone LineStart
node_of LineEnd = Alone LineEnd

-- the nodes of a tree, each behind those of its parts; backward the parts of a concatenation change places
abbrev pub nodes_of : Bool → Tree → List Node
nodes_of back (Then a b) = (if back then nodes_of back b ++ nodes_of back a else nodes_of back a ++ nodes_of back b)
    ++ Joined ∷ []
nodes_of back (Either a b) = (nodes_of back a ++ nodes_of back b) ++ Chosen ∷ []
nodes_of back (Many a) = nodes_of back a ++ Often ∷ []
nodes_of back (Several a) = nodes_of back a ++ Repeated ∷ []
nodes_of back (Maybe a) = nodes_of back a ++ Optional ∷ []
nodes_of back (Group n a) = nodes_of back a ++ Numbered n ∷ []
nodes_of back (Letter c) = Alone (Letter c) ∷ []
nodes_of back AnyLetter = Alone AnyLetter ∷ []
nodes_of back (OneOf negated spans) = Alone (OneOf negated spans) ∷ []
nodes_of back LineStart = Alone LineStart ∷ []
nodes_of back LineEnd = Alone LineEnd ∷ []

-- the nodes of several trees, those of the last one first
abbrev pub nodes_of_all : Bool → List Tree → List Node
nodes_of_all back [] = []
nodes_of_all back (r ∷ rs) = nodes_of_all back rs ++ nodes_of back r

-- the parts of a tree before others, the last one first
abbrev pub parts_before : Bool → Tree → List Tree → List Tree
parts_before back (Then a b) rs = if back then a ∷ b ∷ rs else b ∷ a ∷ rs
parts_before back (Either a b) rs = b ∷ a ∷ rs
parts_before back (Many a) rs = a ∷ rs
parts_before back (Several a) rs = a ∷ rs
parts_before back (Maybe a) rs = a ∷ rs
parts_before back (Group n a) rs = a ∷ rs
parts_before back (Letter c) rs = rs
parts_before back AnyLetter rs = rs
parts_before back (OneOf negated spans) rs = rs
parts_before back LineStart rs = rs
parts_before back LineEnd rs = rs

-- the nodes, one after another, make this tree of the trees that were made before them, the last one first
abbrev pub Builds : List Node → List Tree → Tree → Type 0
Builds [] [] r = ⊥
Builds [] (a ∷ []) r = a ≡ r
Builds [] (b ∷ a ∷ rs) r = ⊥
Builds (Alone a ∷ xs) rs r = Builds xs (a ∷ rs) r
Builds (Joined ∷ xs) [] r = ⊥
Builds (Joined ∷ xs) (b ∷ []) r = ⊥
Builds (Joined ∷ xs) (b ∷ a ∷ rs) r = Builds xs (Then a b ∷ rs) r
Builds (Chosen ∷ xs) [] r = ⊥
Builds (Chosen ∷ xs) (b ∷ []) r = ⊥
Builds (Chosen ∷ xs) (b ∷ a ∷ rs) r = Builds xs (Either a b ∷ rs) r
Builds (Often ∷ xs) [] r = ⊥
Builds (Often ∷ xs) (a ∷ rs) r = Builds xs (Many a ∷ rs) r
Builds (Repeated ∷ xs) [] r = ⊥
Builds (Repeated ∷ xs) (a ∷ rs) r = Builds xs (Several a ∷ rs) r
Builds (Optional ∷ xs) [] r = ⊥
Builds (Optional ∷ xs) (a ∷ rs) r = Builds xs (Maybe a ∷ rs) r
Builds (Numbered n ∷ xs) [] r = ⊥
Builds (Numbered n ∷ xs) (a ∷ rs) r = Builds xs (Group n a ∷ rs) r
