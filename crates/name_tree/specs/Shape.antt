-- The tree by the parts of its paths: places, each with a number. Place 0 is the top, and any other has a
-- name in the place above it.
use Rattle.std.specs.Prelude.{◌==◌, ◌-◌, ℕ, Bool, not, List, [], ◌∷◌, ◌++◌, length, take, get_or, slice_get, slice_set}
use Rattle.std.specs.Prelude.{Option, Some, None, if◌then◌else◌}
use Rattle.std.specs.List.{list_any}
use Rattle.std.specs.Map.{lookup, remove_entry}
use Rattle.std.specs.BTreeMap.{insert_entry, is_at}
use Rattle.am_text.specs.Ascii.{slash}
use Rattle.name_tree.specs.Entries.{byte_order, with_node}
use Rattle.name_tree.specs.declared.types.Node.{Node}
use Rattle.name_tree.specs.declared.origin.Origin.{Origin}

-- where each place hangs, the names in each, and what stands at each
pub record Shape : Type 0 where
  pub origins : List Origin
  pub names : List (List (List ℕ × ℕ))
  pub nodes : List (Option Node)

-- no places
abbrev pub no_places : Shape
no_places = record { origins = []; names = []; nodes = [] }

-- no slash
abbrev pub is_name : List ℕ → Bool
is_name bytes = not (list_any (λ b. b == slash) bytes)

-- a place's path with a `/` before it; the top's is empty
abbrev pub key_in : List (List ℕ) → Origin → List ℕ
key_in [] origin = []
key_in (key ∷ keys) origin = get_or (key ∷ keys) origin.above [] ++ slash ∷ origin.name

abbrev pub keys_from : List (List ℕ) → List Origin → List (List ℕ)
keys_from keys [] = keys
keys_from keys (origin ∷ origins) = keys_from (keys ++ key_in keys origin ∷ []) origins

-- those of all places
abbrev pub keys : List Origin → List (List ℕ)
keys origins = keys_from [] origins

-- the entries, and one where something stands at a place but the top
abbrev pub with_key : List (List ℕ × Node) → List ℕ → Option Node → List (List ℕ × Node)
with_key es key None = es
with_key es [] (Some node) = es
with_key es (b ∷ path) (Some node) = with_node es path node

-- what stands at places of these keys, each with its path
abbrev pub entries : List (List ℕ) → List (Option Node) → List (List ℕ × Node)
entries [] nodes = []
entries (key ∷ keys) [] = []
entries (key ∷ keys) (node ∷ nodes) = with_key (entries keys nodes) key node

-- what stands in the tree, each with its path, in the byte order of the paths
abbrev pub entries_of : Shape → List (List ℕ × Node)
entries_of s = entries (keys s.origins) s.nodes

-- the number of a name
abbrev pub number_in : Option (List (List ℕ × ℕ)) → List ℕ → Option ℕ
number_in None name = None
number_in (Some names) name = lookup (is_at (byte_order name)) names

-- the place of a name in a place
abbrev pub child_of : List (List (List ℕ × ℕ)) → Option ℕ → List ℕ → Option ℕ
child_of names None name = None
child_of names (Some place) name = number_in (slice_get names place) name

-- where `part ++ path` leads from a place
abbrev pub walk : List (List (List ℕ × ℕ)) → Option ℕ → List ℕ → List ℕ → Option ℕ
walk names place part [] = child_of names place part
walk names place part (b ∷ bs) =
    if b == slash then walk names (child_of names place part) [] bs else walk names place (part ++ b ∷ []) bs

-- the place of a path
abbrev pub place_at : List (List (List ℕ × ℕ)) → List ℕ → Option ℕ
place_at names path = walk names (Some 0) [] path

-- the place of a key
abbrev pub place_of : List (List (List ℕ × ℕ)) → List ℕ → Option ℕ
place_of names [] = Some 0
place_of names (b ∷ path) = place_at names path

abbrev pub flat : Option (Option Node) → Option Node
flat None = None
flat (Some node) = node

-- what stands at a place
abbrev pub node_in : List (Option Node) → Option ℕ → Option Node
node_in nodes None = None
node_in nodes (Some place) = flat (slice_get nodes place)

-- with a name in a place
abbrev pub with_name : List (List (List ℕ × ℕ)) → ℕ → List ℕ → ℕ → List (List (List ℕ × ℕ))
with_name names place name number = slice_set names place (insert_entry byte_order (get_or names place []) name number)

-- without one
abbrev pub without_name : List (List (List ℕ × ℕ)) → ℕ → List ℕ → List (List (List ℕ × ℕ))
without_name names place name = slice_set names place (remove_entry (is_at (byte_order name)) (get_or names place []))

-- with a place of this origin, at which nothing stands
abbrev pub grown : Shape → Origin → Shape
grown s origin = record {
  origins = s.origins ++ origin ∷ [];
  names = with_name s.names origin.above origin.name (length s.origins) ++ [] ∷ [];
  nodes = s.nodes ++ None ∷ [];
}

-- with this at a place
abbrev pub put_at : Shape → ℕ → Option Node → Shape
put_at s place node = record s { nodes = slice_set s.nodes place node }

-- without a name, if it is one of a place
abbrev pub without_origin : List (List (List ℕ × ℕ)) → Option Origin → List (List (List ℕ × ℕ))
without_origin names None = names
without_origin names (Some origin) = without_name names origin.above origin.name

abbrev pub first_places : ℕ → Shape → Shape
first_places count s = record {
  origins = take count s.origins;
  names = without_origin (take count s.names) (slice_get s.origins count);
  nodes = take count s.nodes;
}

-- without the newest place
abbrev pub cut : Shape → Shape
cut s = first_places (length s.origins - 1) s
