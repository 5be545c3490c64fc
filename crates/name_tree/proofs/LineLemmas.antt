-- The lines of a directory are those of the names in its place.
use Rattle.std.proofs.Common.{◌≡◌, ℕ, zero, suc, Bool, true, false, cond, List, [], ◌∷◌, ◌++◌, Option, Some, None, refl}
use Rattle.std.proofs.Common.{sym, ap, subst, ◌∙◌}
use Rattle.std.proofs.lemmas.Bool.{false≢true}
use Rattle.std.proofs.lemmas.List.{append_assoc}
use Rattle.std.proofs.lemmas.Option.{none-some}
use Rattle.std.specs.declared.cmp.Ordering.TheVariants.{Less}
use Rattle.std.specs.List.{AllByRecursion}
use Rattle.std.specs.List.Sorted.{IsStrictlySortedBy}
use Rattle.std.specs.Map.{lookup, keys_of}
use Rattle.std.specs.BTreeMap.{is_at}
use Rattle.std.specs.Ordering.{is_eq}
use Rattle.am_text.specs.Ascii.{slash}
use Rattle.name_tree.specs.Entries.{byte_order, entry_at}
use Rattle.name_tree.specs.Laws.{IsOrdered, is_same, with_member, members, lines_of}
use Rattle.name_tree.specs.Lines.{line_if, lines_in, names_in}
use Rattle.name_tree.specs.Listing.{prefix_of, name_after, line, listing}
use Rattle.name_tree.specs.Shape.{Shape, keys, entries_of, child_of, place_at, node_in, is_name}
use Rattle.name_tree.specs.Trie.{IsTrie}
use Rattle.name_tree.specs.declared.types.Node.{Node}
use Rattle.name_tree.proofs.OrderLemmas.{same_path, same_entries}
use Rattle.name_tree.proofs.LawLemmas.{lined, ordered, spelled, after_prefix, after_spelled, name_is}
use Rattle.name_tree.proofs.TrieLemmas.{found, entries_ordered}
use Rattle.name_tree.proofs.WalkLemmas.{walk_onward}

-- the names at whose places something stands, with what stands there
abbrev with_some : List ℕ → Option Node → List (List ℕ × Node) → List (List ℕ × Node)
with_some name None es = es
with_some name (Some node) es = (name, node) ∷ es

abbrev listed : List (Option Node) → List (List ℕ × ℕ) → List (List ℕ × Node)
listed nodes [] = []
listed nodes (e ∷ es) = with_some e.0 (node_in nodes (Some e.1)) (listed nodes es)

joined : (name : List ℕ) (o : Option Node) (es : List (List ℕ × Node)) (text : List ℕ) → text ≡ lines_of es
    → line_if name o ++ text ≡ lines_of (with_some name o es)
joined name None es text h = h
joined name (Some node) es text h = ap (λ t. line name node ++ t) h

lines_listed : (nodes : List (Option Node)) (es : List (List ℕ × ℕ)) → lines_in nodes es ≡ lines_of (listed nodes es)
lines_listed nodes [] = refl
lines_listed nodes (e ∷ es) = joined e.0 (node_in nodes (Some e.1)) (listed nodes es) (lines_in nodes es)
    (lines_listed nodes es)

some_less : (name : List ℕ) (key : List ℕ) (o : Option Node) (es : List (List ℕ × Node))
    → byte_order name key ≡ Less → AllByRecursion (λ k. byte_order name k ≡ Less) (keys_of es)
    → AllByRecursion (λ k. byte_order name k ≡ Less) (keys_of (with_some key o es))
some_less name key None es l h = h
some_less name key (Some node) es l h = (l, h)

listed_less : (nodes : List (Option Node)) (name : List ℕ) (es : List (List ℕ × ℕ))
    → AllByRecursion (λ k. byte_order name k ≡ Less) (keys_of es) → AllByRecursion (λ k. byte_order name k ≡ Less)
    (keys_of (listed nodes es))
listed_less nodes name [] h = tt
listed_less nodes name (e ∷ es) h = some_less name e.0 (node_in nodes (Some e.1)) (listed nodes es) h.0
    (listed_less nodes name es h.1)

some_ordered : (name : List ℕ) (o : Option Node) (es : List (List ℕ × Node))
    → AllByRecursion (λ k. byte_order name k ≡ Less) (keys_of es) → IsOrdered es → IsOrdered (with_some name o es)
unfolding IsStrictlySortedBy
some_ordered name None es l h = h
some_ordered name (Some node) es l h = (l, h)

listed_ordered : (nodes : List (Option Node)) (es : List (List ℕ × ℕ)) → IsStrictlySortedBy byte_order (keys_of es)
    → IsOrdered (listed nodes es)
unfolding IsStrictlySortedBy
listed_ordered nodes [] h = tt
listed_ordered nodes (e ∷ es) h = some_ordered e.0 (node_in nodes (Some e.1)) (listed nodes es)
    (listed_less nodes e.0 es h.0) (listed_ordered nodes es h.1)

absent : (path : List ℕ) (es : List (List ℕ × ℕ)) → AllByRecursion (λ k. byte_order path k ≡ Less) (keys_of es)
    → lookup (is_at (byte_order path)) es ≡ None
absent path [] h = refl
absent path (e ∷ es) h = rw h.0 (absent path es h.1)

some_found : (key : List ℕ) (o : Option Node) (es : List (List ℕ × Node)) (name : List ℕ)
    → is_same name key ≡ true → (o ≡ None → entry_at es name ≡ None) → entry_at (with_some key o es) name ≡ o
some_found key None es name h f = f refl
some_found key (Some node) es name h f = rw h refl

some_other : (key : List ℕ) (o : Option Node) (es : List (List ℕ × Node)) (name : List ℕ)
    → is_same name key ≡ false → entry_at (with_some key o es) name ≡ entry_at es name
some_other key None es name h = refl
some_other key (Some node) es name h = rw h refl

step : (nodes : List (Option Node)) (e : List ℕ × ℕ) (es : List (List ℕ × ℕ)) (name : List ℕ)
    → AllByRecursion (λ k. byte_order e.0 k ≡ Less) (keys_of es) → (t : Bool)
    → is_same name e.0 ≡ t → entry_at (listed nodes es) name ≡ node_in nodes (lookup (is_at (byte_order name)) es)
    → entry_at (listed nodes (e ∷ es)) name ≡ node_in nodes (lookup (is_at (byte_order name)) (e ∷ es))
step nodes e es name l true q later =
    some_found e.0 (node_in nodes (Some e.1)) (listed nodes es) name q
    (λ _. later ∙ ap (node_in nodes) (ap (λ n. lookup (is_at (byte_order n)) es) (same_path name e.0 q)
    ∙ absent e.0 es l))
    ∙ ap (λ t. node_in nodes (cond t (Some e.1) (lookup (is_at (byte_order name)) es))) (sym q)
step nodes e es name l false q later =
    some_other e.0 (node_in nodes (Some e.1)) (listed nodes es) name q ∙ later
    ∙ ap (λ t. node_in nodes (cond t (Some e.1) (lookup (is_at (byte_order name)) es))) (sym q)

listed_found : (nodes : List (Option Node)) (es : List (List ℕ × ℕ)) (name : List ℕ)
    → IsStrictlySortedBy byte_order (keys_of es) → entry_at (listed nodes es)
    name ≡ node_in nodes (lookup (is_at (byte_order name)) es)
unfolding IsStrictlySortedBy
listed_found nodes [] name h = refl
listed_found nodes (e ∷ es) name h = step nodes e es name h.0 (is_same name e.0) refl (listed_found nodes es name h.1)

-- ---- the members of a directory

member_in : (prefix : List ℕ) (e : List ℕ × Node) (es : List (List ℕ × Node)) (name : List ℕ)
    → is_name name ≡ true → (o : Option (List ℕ)) → name_after prefix e.0 ≡ o → entry_at (members prefix es)
    name ≡ entry_at es (prefix ++ name) → entry_at (with_member o e.1 (members prefix es)) name ≡ entry_at (e ∷ es)
    (prefix ++ name)
member_in prefix e es name pure None q later = by (is_same (prefix ++ name) e.0) refl
  where
    by : (t : Bool) → is_same (prefix ++ name) e.0 ≡ t → entry_at (members prefix es) name ≡ cond t (Some e.1)
        (entry_at es (prefix ++ name))
    by true u = absurd (none-some name (sym q ∙ ap (name_after prefix) (sym (same_path (prefix ++ name) e.0 u))
        ∙ after_spelled prefix name pure))
    by false u = later
member_in prefix e es name pure (Some other) q later =
    ap (λ r. cond (is_same name other) (Some e.1) r) later
    ∙ ap (λ t. cond t (Some e.1) (entry_at es (prefix ++ name))) (ap is_eq (sym (after_prefix prefix name other))
    ∙ ap (λ p. is_same (prefix ++ name) p) (sym (spelled prefix e.0 other q)))

member_at : (prefix : List ℕ) (es : List (List ℕ × Node)) (name : List ℕ)
    → is_name name ≡ true → entry_at (members prefix es) name ≡ entry_at es (prefix ++ name)
member_at prefix [] name pure = refl
member_at prefix (e ∷ es) name pure = member_in prefix e es name pure (name_after prefix e.0) refl
    (member_at prefix es name pure)

no_member : (prefix : List ℕ) (es : List (List ℕ × Node)) (name : List ℕ)
    → is_name name ≡ false → entry_at (members prefix es) name ≡ None
no_member prefix [] name h = refl
no_member prefix (e ∷ es) name h = by (name_after prefix e.0) refl (no_member prefix es name h)
  where
    apart : (other : List ℕ) → is_name other ≡ true → (t : Bool) → is_same name other ≡ t → cond t (Some e.1)
        (entry_at (members prefix es) name) ≡ entry_at (members prefix es) name
    apart other pure true q = absurd (false≢true (sym h ∙ ap is_name (same_path name other q) ∙ pure))
    apart other pure false q = refl

    by : (o : Option (List ℕ)) → name_after prefix e.0 ≡ o → entry_at (members prefix es) name ≡ None →
        entry_at (with_member o e.1 (members prefix es)) name ≡ None
    by None q later = later
    by (Some other) q later = apart other (name_is prefix e.0 other q) (is_same name other) refl ∙ later

-- ---- both

numbered : (names : List (List (List ℕ × ℕ))) (o : Option ℕ) (name : List ℕ)
    → lookup (is_at (byte_order name)) (names_in names o) ≡ child_of names o name
numbered names None name = refl
numbered [] (Some n) name = refl
numbered (es ∷ names) (Some zero) name = refl
numbered (es ∷ names) (Some (suc n)) name = numbered names (Some n) name

same_members : (s : Shape) → IsTrie s → (front : List ℕ) → IsStrictlySortedBy byte_order
    (keys_of (names_in s.names (place_at s.names front))) → members (front ++ slash ∷ [])
    (entries_of s) ≡ listed s.nodes (names_in s.names (place_at s.names front))
same_members s t front sorted =
    same_entries (members (front ++ slash ∷ []) (entries_of s)) (listed s.nodes
    (names_in s.names (place_at s.names front)))
    (ordered (front ++ slash ∷ []) (entries_of s) (entries_ordered (keys s.origins) s.nodes))
    (listed_ordered s.nodes (names_in s.names (place_at s.names front)) sorted)
    (λ name. by name (is_name name) refl ∙ sym (listed_found s.nodes (names_in s.names (place_at s.names front)) name
    sorted ∙ ap (node_in s.nodes) (numbered s.names (place_at s.names front) name)))
  where
    unnamed : (name : List ℕ) → is_name name ≡ false → (o : Option ℕ) → place_at s.names front ≡ o → (c : Option ℕ)
        → child_of s.names o name ≡ c → None ≡ node_in s.nodes c
    unnamed name q None g c h = ap (node_in s.nodes) h
    unnamed name q (Some n) g None h = refl
    unnamed name q (Some n) g (Some x) h = absurd (false≢true (sym q ∙ t.named n x name h))

    by : (name : List ℕ) (r : Bool) → is_name name ≡ r → entry_at (members (front ++ slash ∷ []) (entries_of s))
        name ≡ node_in s.nodes (child_of s.names (place_at s.names front) name)
    by name true q =
        member_at (front ++ slash ∷ []) (entries_of s) name q
        ∙ ap (entry_at (entries_of s)) (append_assoc front (slash ∷ []) name)
        ∙ found s t (front ++ slash ∷ name)
        ∙ ap (node_in s.nodes) (walk_onward s.names (Some 0) [] front name q)
    by name false q =
        no_member (front ++ slash ∷ []) (entries_of s) name q
        ∙ unnamed name q (place_at s.names front) refl (child_of s.names (place_at s.names front) name) refl

-- a directory's text is the lines of the names in its place
pub listing_is : (s : Shape) → IsTrie s → (path front : List ℕ) → prefix_of path ≡ front ++ slash ∷ []
    → IsStrictlySortedBy byte_order (keys_of (names_in s.names (place_at s.names front)))
    → listing (entries_of s) path ≡ lines_in s.nodes (names_in s.names (place_at s.names front))
listing_is s t path front e sorted =
    lined (prefix_of path) (entries_of s)
    ∙ ap (λ prefix. lines_of (members prefix (entries_of s))) e
    ∙ ap lines_of (same_members s t front sorted)
    ∙ sym (lines_listed s.nodes (names_in s.names (place_at s.names front)))

none_sorted : (es : List (List ℕ × ℕ)) → es ≡ [] → IsStrictlySortedBy byte_order []
unfolding IsStrictlySortedBy
none_sorted es e = tt

pub sorted_empty : (es : List (List ℕ × ℕ)) → es ≡ [] → IsStrictlySortedBy byte_order (keys_of es)
sorted_empty es e = subst (λ l. IsStrictlySortedBy byte_order (keys_of l)) (sym e) (none_sorted es e)
