-- The lines of the names in a place.
use Rattle.std.specs.Prelude.{ℕ, List, [], ◌∷◌, ◌++◌, get_or, Option, Some, None}
use Rattle.name_tree.specs.Listing.{line}
use Rattle.name_tree.specs.Shape.{node_in}
use Rattle.name_tree.specs.declared.types.Node.{Node}

-- the line of a name, if something stands there
abbrev pub line_if : List ℕ → Option Node → List ℕ
line_if name None = []
line_if name (Some node) = line name node

-- the lines of the names at whose places something stands
abbrev pub lines_in : List (Option Node) → List (List ℕ × ℕ) → List ℕ
lines_in nodes [] = []
lines_in nodes (e ∷ es) = line_if e.0 (node_in nodes (Some e.1)) ++ lines_in nodes es

-- the names in a place, if it is one
abbrev pub names_in : List (List (List ℕ × ℕ)) → Option ℕ → List (List ℕ × ℕ)
names_in names None = []
names_in names (Some place) = get_or names place []
