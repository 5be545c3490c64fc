-- What stands in the tree is what its places tell.
use Rattle.std.proofs.Common.{◌≡◌, ◌<◌, ℕ, zero, suc, Bool, true, false, List, [], ◌∷◌, length, Option, Some, None}
use Rattle.std.proofs.Common.{slice_get, slice_set, refl, sym, ap, subst, ◌∙◌, arith}
use Rattle.std.proofs.lemmas.Bool.{false≢true}
use Rattle.std.proofs.lemmas.List.{length-set, nil_from_length}
use Rattle.std.proofs.lemmas.Option.{none-some, same_Some, slice_get_within}
use Rattle.std.specs.List.Sorted.{IsStrictlySortedBy}
use Rattle.am_text.specs.Ascii.{slash}
use Rattle.name_tree.specs.Entries.{entry_at, with_node}
use Rattle.name_tree.specs.Laws.{IsOrdered, is_same}
use Rattle.name_tree.specs.Shape.{Shape, keys, with_key, entries, entries_of, place_at, node_in, put_at}
use Rattle.name_tree.specs.Trie.{IsTrie}
use Rattle.name_tree.specs.declared.types.Node.{Node}
use Rattle.name_tree.proofs.MapLemmas.{with_found, with_other}
use Rattle.name_tree.proofs.OrderLemmas.{same_path, same_itself, with_ordered, same_entries}
use Rattle.name_tree.proofs.WalkLemmas.{walk_empty, sound_walk}

key_ordered : (es : List (List ℕ × Node)) (key : List ℕ) (o : Option Node) → IsOrdered es
    → IsOrdered (with_key es key o)
key_ordered es key None h = h
key_ordered es [] (Some node) h = h
key_ordered es (b ∷ path) (Some node) h = with_ordered es path node h

pub entries_ordered : (ks : List (List ℕ)) (os : List (Option Node)) → IsOrdered (entries ks os)
unfolding IsStrictlySortedBy
entries_ordered [] os = tt
entries_ordered (k ∷ ks) [] = tt
entries_ordered (k ∷ ks) (o ∷ os) = key_ordered (entries ks os) k o (entries_ordered ks os)

other_key : (es : List (List ℕ × Node)) (k : List ℕ) (o : Option Node) (path : List ℕ) → ((b : ℕ) → k ≡ b ∷ path → ⊥)
    → entry_at (with_key es k o) path ≡ entry_at es path
other_key es k None path f = refl
other_key es [] (Some node) path f = refl
other_key es (b ∷ p) (Some node) path f = by (is_same path p) refl
  where
    by : (t : Bool) → is_same path p ≡ t → entry_at (with_node es p node) path ≡ entry_at es path
    by true h = absurd (f b (ap (λ r. b ∷ r) (sym (same_path path p h))))
    by false h = with_other es p node path h

here_key : (es : List (List ℕ × Node)) (o : Option Node) (path : List ℕ) (b : ℕ)
    → entry_at es path ≡ None → entry_at (with_key es (b ∷ path) o) path ≡ o
here_key es None path b h = h
here_key es (Some node) path b h = with_found es path node

-- at a path of no key nothing stands
absent_key : (ks : List (List ℕ)) (os : List (Option Node)) (path : List ℕ)
    → ((n b : ℕ) → slice_get ks n ≡ Some (b ∷ path) → ⊥) → entry_at (entries ks os) path ≡ None
absent_key [] os path f = refl
absent_key (k ∷ ks) [] path f = refl
absent_key (k ∷ ks) (o ∷ os) path f = other_key (entries ks os) k o path (λ b e. f 0 b (ap Some e))
    ∙ absent_key ks os path (λ n b h. f (suc n) b h)

-- at the path of a key that is there once stands what stands at its place
present_key : (ks : List (List ℕ)) (os : List (Option Node)) (path : List ℕ) (n b : ℕ)
    → ((m c : ℕ) → slice_get ks m ≡ Some (c ∷ path) → m ≡ n) → slice_get ks n ≡ Some (b ∷ path)
    → entry_at (entries ks os) path ≡ node_in os (Some n)
present_key [] os path n b f h = absurd (none-some (b ∷ path) h)
present_key (k ∷ ks) [] path n b f h = refl
present_key (k ∷ ks) (o ∷ os) path zero b f h =
    ap (λ key. entry_at (with_key (entries ks os) key o) path) (same_Some k (b ∷ path) h)
    ∙ here_key (entries ks os) o path b (absent_key ks os path (λ m c g. let e : suc m ≡ 0 = f (suc m) c g in
    omega arith))
present_key (k ∷ ks) (o ∷ os) path (suc n) b f h =
    other_key (entries ks os) k o path (λ c g. let e : 0 ≡ suc n = f 0 c (ap Some g) in omega arith)
    ∙ present_key ks os path n b (λ m c g. let e : suc m ≡ suc n = f (suc m) c g in omega arith) h

-- a place has the path that leads to it
pub key_of_place : (s : Shape) → IsTrie s → (path : List ℕ) (n : ℕ) → place_at s.names path ≡ Some n
    → slice_get (keys s.origins) n ≡ Some (slash ∷ path)
key_of_place s t path n g = by (keys s.origins) refl
  where
    by : (ks : List (List ℕ)) → keys s.origins ≡ ks → slice_get (keys s.origins) n ≡ Some (slash ∷ path)
    by [] q =
        let none : s.names ≡ [] = nil_from_length s.names (t.names ∙ ap length q) in
        absurd (none-some n (sym (walk_empty (Some 0) [] path) ∙ ap (λ ns. place_at ns path) (sym none) ∙ g))
    by (k ∷ ks) q =
        let first : slice_get (keys s.origins) 0 ≡ Some k = ap (λ l. slice_get l 0) q in
        sound_walk s.names (keys s.origins) t.sound 0 n [] [] path (first ∙ ap Some (t.top k first)) g

-- what stands at a path is what stands at its place
pub found : (s : Shape) → IsTrie s → (path : List ℕ) → entry_at (entries_of s)
    path ≡ node_in s.nodes (place_at s.names path)
found s t path = by (place_at s.names path) refl
  where
    by : (o : Option ℕ) → place_at s.names path ≡ o → entry_at (entries_of s) path ≡ node_in s.nodes o
    by None g = absent_key (keys s.origins) s.nodes path (λ n b h. none-some n (sym g ∙ t.reached n (b ∷ path) h))
    by (Some n) g = present_key (keys s.origins) s.nodes path n slash
        (λ m c h. same_Some m n (sym (t.reached m (c ∷ path) h) ∙ g)) (key_of_place s t path n g)

-- what stands at a place stands at its path
pub found_there : (s : Shape) → IsTrie s → (n b : ℕ) (path : List ℕ) → slice_get (keys s.origins) n ≡ Some (b ∷ path)
    → entry_at (entries_of s) path ≡ node_in s.nodes (Some n)
found_there s t n b path h = found s t path ∙ ap (node_in s.nodes) (t.reached n (b ∷ path) h)

-- ---- another node at a place

node_put : (os : List (Option Node)) (n : ℕ) (o : Option Node) → n < length os → node_in (slice_set os n o) (Some n) ≡ o
node_put [] n o l = absurd (omega arith)
node_put (x ∷ os) zero o l = refl
node_put (x ∷ os) (suc n) o l = node_put os n o (omega arith)

node_other : (os : List (Option Node)) (n m : ℕ) (o : Option Node) → (m ≡ n → ⊥)
    → node_in (slice_set os n o) (Some m) ≡ node_in os (Some m)
node_other [] n m o f = refl
node_other (x ∷ os) zero zero o f = absurd (f refl)
node_other (x ∷ os) zero (suc m) o f = refl
node_other (x ∷ os) (suc n) zero o f = refl
node_other (x ∷ os) (suc n) (suc m) o f = node_other os n m o (λ e. f (ap suc e))

pub put_trie : (s : Shape) → IsTrie s → (n : ℕ) (o : Option Node) → IsTrie (put_at s n o)
put_trie s t n o = record {
  names = t.names;
  nodes = length-set s.nodes n o ∙ t.nodes;
  top = t.top;
  sound = t.sound;
  named = t.named;
  reached = t.reached;
}

-- what is put at a place stands at its path
pub put_entries : (s : Shape) → IsTrie s → (n b : ℕ) (path : List ℕ) (node : Node)
    → slice_get (keys s.origins) n ≡ Some (b ∷ path) → entries_of (put_at s n (Some node)) ≡ with_node (entries_of s)
    path node
put_entries s t n b path node h =
    same_entries (entries_of (put_at s n (Some node))) (with_node (entries_of s) path node)
    (entries_ordered (keys s.origins) (slice_set s.nodes n (Some node)))
    (with_ordered (entries_of s) path node (entries_ordered (keys s.origins) s.nodes))
    (λ other. by other (is_same other path) refl)
  where
    within : n < length s.nodes
    within = let l : n < length (keys s.origins) = slice_get_within (keys s.origins) n (b ∷ path) h in
        let e : length s.nodes ≡ length (keys s.origins) = t.nodes in omega arith

    found_put : (other : List ℕ) → entry_at (entries_of (put_at s n (Some node)))
        other ≡ node_in (slice_set s.nodes n (Some node)) (place_at s.names other)
    found_put other = found (put_at s n (Some node)) (put_trie s t n (Some node)) other

    here : entry_at (entries_of (put_at s n (Some node))) path ≡ entry_at (with_node (entries_of s) path node) path
    here = found_put path ∙ ap (node_in (slice_set s.nodes n (Some node))) (t.reached n (b ∷ path) h)
        ∙ node_put s.nodes n (Some node) within ∙ sym (with_found (entries_of s) path node)

    apart : (other : List ℕ) → is_same other path ≡ false → (m : ℕ) → place_at s.names other ≡ Some m → m ≡ n → ⊥
    apart other e m g same =
        let both : Some (slash ∷ other) ≡ Some (b ∷ path) = sym (key_of_place s t other m g)
        ∙ ap (slice_get (keys s.origins)) same ∙ h in
        let tails : other ≡ path = cc in false≢true (sym e ∙ ap (λ p. is_same p path) tails ∙ same_itself path)

    elsewhere : (other : List ℕ) → is_same other path ≡ false → (o : Option ℕ)
        → place_at s.names other ≡ o → node_in (slice_set s.nodes n (Some node)) o ≡ node_in s.nodes o
    elsewhere other e None g = refl
    elsewhere other e (Some m) g = node_other s.nodes n m (Some node) (apart other e m g)

    by : (other : List ℕ) (r : Bool) → is_same other path ≡ r → entry_at (entries_of (put_at s n (Some node)))
        other ≡ entry_at (with_node (entries_of s) path node) other
    by other true e =
        let same : other ≡ path = same_path other path e in
        subst (λ p. entry_at (entries_of (put_at s n (Some node))) p ≡ entry_at (with_node (entries_of s) path node) p)
        (sym same) here
    by other false e = found_put other ∙ elsewhere other e (place_at s.names other) refl ∙ sym (found s t other)
        ∙ sym (with_other (entries_of s) path node other e)
