-- What holds of all places: each path leads to the place that has it, and to no other.
use Rattle.std.specs.Prelude.{◌≡◌, ℕ, true, List, [], ◌∷◌, ◌++◌, length, slice_get, Option, Some}
use Rattle.am_text.specs.Ascii.{slash}
use Rattle.name_tree.specs.Shape.{Shape, keys, child_of, place_of, is_name}
use Rattle.name_tree.specs.declared.types.Node.{Node}

-- places of these keys
pub record IsTrieOf (ks : List (List ℕ)) (all_names : List (List (List ℕ × ℕ)))
    (all_nodes : List (Option Node)) : Type 0 where
  -- each has names, and may have a node
  pub names : length all_names ≡ length ks
  pub nodes : length all_nodes ≡ length ks
  pub top : (key : List ℕ) → slice_get ks 0 ≡ Some key → key ≡ []
  -- the place of a name has the key that the name makes, and no name has a slash
  pub sound : (place other : ℕ) (key name : List ℕ) → slice_get ks place ≡ Some key
      → child_of all_names (Some place) name ≡ Some other → slice_get ks other ≡ Some (key ++ slash ∷ name)
  pub named : (place other : ℕ) (name : List ℕ) → child_of all_names (Some place) name ≡ Some other
      → is_name name ≡ true
  -- each is where its key leads
  pub reached : (place : ℕ) (key : List ℕ) → slice_get ks place ≡ Some key → place_of all_names key ≡ Some place

abbrev pub IsTrie : Shape → Type 0
IsTrie s = IsTrieOf (keys s.origins) s.names s.nodes
