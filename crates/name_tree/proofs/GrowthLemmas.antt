-- A place more, and what takes it back.
use Rattle.std.proofs.Common.{◌≡◌, ◌+◌, ◌-◌, ◌<◌, ℕ, zero, suc, Bool, true, false, List, [], ◌∷◌, ◌++◌, length, take}
use Rattle.std.proofs.Common.{get_or, Option, Some, None, slice_get, slice_set, refl, sym, ap, subst, ◌∙◌, arith}
use Rattle.std.proofs.lemmas.List.{length-set, length_push, nil_from_length, take_at, set-set, set-get_or}
use Rattle.std.proofs.lemmas.Option.{none-some, same_Some, slice_get_within, get_or_from_slice_get}
use Rattle.std.specs.Map.{lookup}
use Rattle.std.specs.BTreeMap.{insert_entry, is_at}
use Rattle.am_text.specs.Ascii.{slash}
use Rattle.name_tree.specs.Entries.{byte_order}
use Rattle.name_tree.specs.Laws.{is_same}
use Rattle.name_tree.specs.Shape.{Shape, keys, keys_from, key_in, with_key, entries, entries_of, number_in, child_of}
use Rattle.name_tree.specs.Shape.{place_of, with_name, without_name, without_origin, is_name, grown, put_at, cut}
use Rattle.name_tree.specs.Trie.{IsTrieOf, IsTrie}
use Rattle.name_tree.specs.declared.types.Node.{Node}
use Rattle.name_tree.specs.declared.origin.Origin.{Origin}
use Rattle.name_tree.proofs.MapLemmas.{found_inserted, other_inserted, inserted_undone}
use Rattle.name_tree.proofs.OrderLemmas.{same_path}
use Rattle.name_tree.proofs.WalkLemmas.{walk_stays, place_onward}

keys_grown : (ks : List (List ℕ)) (os : List Origin) (o : Origin) → keys_from ks (os ++ o ∷ []) ≡ keys_from ks os
    ++ key_in (keys_from ks os) o ∷ []
keys_grown ks [] o = refl
keys_grown ks (x ∷ os) o = keys_grown (ks ++ key_in ks x ∷ []) os o

count_from : (ks : List (List ℕ)) (os : List Origin) → length (keys_from ks os) ≡ length ks + length os
count_from ks [] = omega arith
count_from ks (x ∷ os) =
    let later : length (keys_from (ks ++ key_in ks x ∷ []) os) ≡ length (ks ++ key_in ks x ∷ []) + length os =
    count_from (ks ++ key_in ks x ∷ []) os in
    let more : length (ks ++ key_in ks x ∷ []) ≡ length ks + 1 = length_push ks (key_in ks x) in omega arith

pub count_keys : (os : List Origin) → length (keys os) ≡ length os
count_keys os = let e : length (keys_from [] os) ≡ length {A = List ℕ} [] + length os = count_from [] os in omega arith

some_left : {A : Type 0} (xs ys : List A) (n : ℕ) (x : A) → slice_get xs n ≡ Some x → slice_get (xs ++ ys) n ≡ Some x
some_left [] ys n x h = absurd (none-some x h)
some_left (z ∷ xs) ys zero x h = h
some_left (z ∷ xs) ys (suc n) x h = some_left xs ys n x h

some_last : {A : Type 0} (xs : List A) (x : A) → slice_get (xs ++ x ∷ []) (length xs) ≡ Some x
some_last [] x = refl
some_last (z ∷ xs) x = some_last xs x

old_or_last : {A R : Type 0} (xs : List A) (y : A) (n : ℕ) (x : A) → slice_get (xs ++ y ∷ []) n ≡ Some x
    → (slice_get xs n ≡ Some x → R) → (n ≡ length xs → y ≡ x → R) → R
old_or_last [] y zero x h f g = g refl (same_Some y x h)
old_or_last [] y (suc n) x h f g = absurd (none-some x h)
old_or_last (z ∷ xs) y zero x h f g = f h
old_or_last (z ∷ xs) y (suc n) x h f g = old_or_last xs y n x h f (λ e. g (ap suc e))

-- ---- a name more

number_within : (names : List (List (List ℕ × ℕ))) (p : ℕ) (name : List ℕ) (x : ℕ)
    → number_in (slice_get names p) name ≡ Some x → p < length names
number_within [] p name x h = absurd (none-some x h)
number_within (es ∷ names) zero name x h = omega arith
number_within (es ∷ names) (suc p) name x h = let l : p < length names = number_within names p name x h in omega arith

number_left : (names : List (List (List ℕ × ℕ))) (p : ℕ) (name : List ℕ) (x : ℕ)
    → number_in (slice_get names p) name ≡ Some x → number_in (slice_get (names ++ [] ∷ []) p) name ≡ Some x
number_left [] p name x h = absurd (none-some x h)
number_left (es ∷ names) zero name x h = h
number_left (es ∷ names) (suc p) name x h = number_left names p name x h

number_old : (names : List (List (List ℕ × ℕ))) (p : ℕ) (name : List ℕ) (x : ℕ)
    → number_in (slice_get (names ++ [] ∷ []) p) name ≡ Some x → number_in (slice_get names p) name ≡ Some x
number_old [] zero name x h = absurd (none-some x h)
number_old [] (suc p) name x h = absurd (none-some x h)
number_old (es ∷ names) zero name x h = h
number_old (es ∷ names) (suc p) name x h = number_old names p name x h

same_lookup : (es : List (List ℕ × ℕ)) (a b : List ℕ) → is_same a b ≡ true → lookup (is_at (byte_order a))
    es ≡ lookup (is_at (byte_order b)) es
same_lookup es a b h = ap (λ p. lookup (is_at (byte_order p)) es) (same_path a b h)

stays : (names : List (List (List ℕ × ℕ))) (m p : ℕ) (name q : List ℕ) (count x : ℕ)
    → number_in (slice_get names m) name ≡ None → number_in (slice_get names p) q ≡ Some x
    → number_in (slice_get (with_name names m name count ++ [] ∷ []) p) q ≡ Some x
stays [] m p name q count x h g = absurd (none-some x g)
stays (es ∷ names) zero zero name q count x h g = by (is_same q name) refl
  where
    by : (t : Bool) → is_same q name ≡ t → lookup (is_at (byte_order q))
        (insert_entry byte_order es name count) ≡ Some x
    by true e = absurd (none-some x (sym h ∙ sym (same_lookup es q name e) ∙ g))
    by false e = other_inserted es name count q e ∙ g
stays (es ∷ names) zero (suc p) name q count x h g = number_left names p q x g
stays (es ∷ names) (suc m) zero name q count x h g = g
stays (es ∷ names) (suc m) (suc p) name q count x h g = stays names m p name q count x h g

named_new : (names : List (List (List ℕ × ℕ))) (m : ℕ) (name : List ℕ) (count : ℕ) → m < length names
    → number_in (slice_get (with_name names m name count ++ [] ∷ []) m) name ≡ Some count
named_new [] m name count l = absurd (omega arith)
named_new (es ∷ names) zero name count l = found_inserted es name count
named_new (es ∷ names) (suc m) name count l = named_new names m name count (omega arith)

only : {R : Type 0} (names : List (List (List ℕ × ℕ))) (m p : ℕ) (name q : List ℕ) (count x : ℕ)
    → number_in (slice_get (with_name names m name count ++ [] ∷ []) p) q ≡ Some x
    → (number_in (slice_get names p) q ≡ Some x → R) → (p ≡ m → q ≡ name → count ≡ x → R) → R
only [] m zero name q count x h f g = absurd (none-some x h)
only [] m (suc p) name q count x h f g = absurd (none-some x h)
only {R} (es ∷ names) zero zero name q count x h f g = by (is_same q name) refl
  where
    by : (t : Bool) → is_same q name ≡ t → R
    by true e = let same : q ≡ name = same_path q name e in g refl same
        (same_Some count x (sym (found_inserted es name count) ∙ ap
        (λ n. lookup (is_at (byte_order n)) (insert_entry byte_order es name count)) (sym same) ∙ h))
    by false e = f (sym (other_inserted es name count q e) ∙ h)
only (es ∷ names) zero (suc p) name q count x h f g = f (number_old names p q x h)
only (es ∷ names) (suc m) zero name q count x h f g = f h
only (es ∷ names) (suc m) (suc p) name q count x h f g = only names m p name q count x h f (λ e. g (ap suc e))

named_back : (names : List (List (List ℕ × ℕ))) (m : ℕ) (name : List ℕ) (count : ℕ)
    → number_in (slice_get names m) name ≡ None → without_name (with_name names m name count) m name ≡ names
named_back [] m name count h = refl
named_back (es ∷ names) zero name count h = ap (λ l. l ∷ names) (inserted_undone es name count h)
named_back (es ∷ names) (suc m) name count h = ap (λ ns. es ∷ ns) (named_back names m name count h)

-- ---- a place more

grown_of : (ks : List (List ℕ)) (names : List (List (List ℕ × ℕ))) (nodes : List (Option Node))
    → IsTrieOf ks names nodes → (m : ℕ) (name key : List ℕ) → slice_get ks m ≡ Some key
    → is_name name ≡ true → child_of names (Some m) name ≡ None → IsTrieOf (ks ++ (key ++ slash ∷ name) ∷ [])
    (with_name names m name (length ks) ++ [] ∷ []) (nodes ++ None ∷ [])
grown_of ks names nodes t m name key h pure free = record {
  names = length_push (with_name names m name (length ks)) [] ∙ ap (λ n. n + 1)
      (length-set names m (insert_entry byte_order (get_or names m []) name (length ks)) ∙ t.names)
      ∙ sym (length_push ks (key ++ slash ∷ name));
  nodes = length_push nodes None ∙ ap (λ n. n + 1) t.nodes ∙ sym (length_push ks (key ++ slash ∷ name));
  top = λ k u. old_or_last ks (key ++ slash ∷ name) 0 k u (λ v. t.top k v)
      (λ e v. let l : m < length ks = within in absurd (omega arith));
  sound = λ p x k q u v. only names m p name q (length ks) x v (λ w. old_sound p x k q u w)
      (λ e f g. new_sound p x k q u e f g);
  named = λ p x q v. only names m p name q (length ks) x v (λ w. t.named p x q w) (λ e f g. ap is_name f ∙ pure);
  reached = λ n k u. old_or_last ks (key ++ slash ∷ name) n k u (λ v. still k n (t.reached n k v))
      (λ e v. ap (place_of more) (sym v) ∙ place_onward more key name pure
      ∙ ap (λ o. child_of more o name) (still key m (t.reached m key h))
      ∙ named_new names m name (length ks) within_names ∙ ap Some (sym e));
}
  where
    more : List (List (List ℕ × ℕ))
    more = with_name names m name (length ks) ++ [] ∷ []

    within : m < length ks
    within = slice_get_within ks m key h

    within_names : m < length names
    within_names = let l : m < length ks = within in let e : length names ≡ length ks = t.names in omega arith

    children : (place : Option ℕ) (q : List ℕ) (x : ℕ) → child_of names place q ≡ Some x
        → child_of more place q ≡ Some x
    children None q x u = absurd (none-some x u)
    children (Some p) q x u = stays names m p name q (length ks) x free u

    still : (k : List ℕ) (n : ℕ) → place_of names k ≡ Some n → place_of more k ≡ Some n
    still [] n u = u
    still (b ∷ path) n u = walk_stays names more children (Some 0) [] path n u

    old_key : (p : ℕ) (k : List ℕ) → p < length ks → slice_get (ks ++ (key ++ slash ∷ name) ∷ []) p ≡ Some k
        → slice_get ks p ≡ Some k
    old_key p k l u = old_or_last ks (key ++ slash ∷ name) p k u (λ v. v) (λ e v. absurd (omega arith))

    old_sound : (p x : ℕ) (k q : List ℕ) → slice_get (ks ++ (key ++ slash ∷ name) ∷ []) p ≡ Some k
        → number_in (slice_get names p) q ≡ Some x → slice_get (ks ++ (key ++ slash ∷ name) ∷ [])
        x ≡ Some (k ++ slash ∷ q)
    old_sound p x k q u w =
        let l : p < length names = number_within names p q x w in let e : length names ≡ length ks = t.names in
        let l' : p < length ks = omega arith in
        some_left ks ((key ++ slash ∷ name) ∷ []) x (k ++ slash ∷ q) (t.sound p x k q (old_key p k l' u) w)

    new_sound : (p x : ℕ) (k q : List ℕ) → slice_get (ks ++ (key ++ slash ∷ name) ∷ []) p ≡ Some k
        → p ≡ m → q ≡ name → length ks ≡ x → slice_get (ks ++ (key ++ slash ∷ name) ∷ []) x ≡ Some (k ++ slash ∷ q)
    new_sound p x k q u e f g =
        let same : k ≡ key = same_Some k key (sym u ∙ ap (slice_get (ks ++ (key ++ slash ∷ name) ∷ [])) e
        ∙ some_left ks ((key ++ slash ∷ name) ∷ []) m key h) in
        ap (slice_get (ks ++ (key ++ slash ∷ name) ∷ [])) (sym g) ∙ some_last ks (key ++ slash ∷ name)
        ∙ ap (λ j. Some (j ++ slash ∷ name)) (sym same) ∙ ap (λ j. Some (k ++ slash ∷ j)) (sym f)

key_made : (ks : List (List ℕ)) (o : Origin) (key : List ℕ) → slice_get ks o.above ≡ Some key
    → key_in ks o ≡ key ++ slash ∷ o.name
key_made [] o key h = absurd (none-some key h)
key_made (k ∷ ks) o key h = ap (λ j. j ++ slash ∷ o.name) (get_or_from_slice_get (k ∷ ks) o.above key [] h)

pub keys_with : (s : Shape) (o : Origin) (key : List ℕ) → slice_get (keys s.origins) o.above ≡ Some key
    → keys (s.origins ++ o ∷ []) ≡ keys s.origins ++ (key ++ slash ∷ o.name) ∷ []
keys_with s o key h = keys_grown [] s.origins o ∙ ap (λ k. keys s.origins ++ k ∷ []) (key_made (keys s.origins) o key h)

pub grown_trie : (s : Shape) → IsTrie s → (o : Origin) (key : List ℕ) → slice_get (keys s.origins) o.above ≡ Some key
    → is_name o.name ≡ true → child_of s.names (Some o.above) o.name ≡ None → IsTrie (grown s o)
grown_trie s t o key h pure free =
    subst (λ n. IsTrieOf (keys (s.origins ++ o ∷ [])) (with_name s.names o.above o.name n ++ [] ∷ [])
    (s.nodes ++ None ∷ [])) (count_keys s.origins)
    (subst (λ ks. IsTrieOf ks (with_name s.names o.above o.name (length (keys s.origins)) ++ [] ∷ [])
    (s.nodes ++ None ∷ [])) (sym (keys_with s o key h))
    (grown_of (keys s.origins) s.names s.nodes t o.above o.name key h pure free))

-- the key of the place that is new
pub key_of_new : (s : Shape) (o : Origin) (key : List ℕ) → slice_get (keys s.origins) o.above ≡ Some key
    → slice_get (keys (s.origins ++ o ∷ [])) (length s.origins) ≡ Some (key ++ slash ∷ o.name)
key_of_new s o key h =
    ap (λ ks. slice_get ks (length s.origins)) (keys_with s o key h)
    ∙ ap (slice_get (keys s.origins ++ (key ++ slash ∷ o.name) ∷ [])) (sym (count_keys s.origins))
    ∙ some_last (keys s.origins) (key ++ slash ∷ o.name)

none_in_top : (p : ℕ) (name : List ℕ) → child_of ([] ∷ []) (Some p) name ≡ None
none_in_top zero name = refl
none_in_top (suc p) name = refl

top_of : IsTrieOf ([] ∷ []) ([] ∷ []) (None ∷ [])
top_of = record {
  names = refl;
  nodes = refl;
  top = λ key h. sym (same_Some [] key h);
  sound = λ p x k q u v. absurd (none-some x (sym (none_in_top p q) ∙ v));
  named = λ p x q v. absurd (none-some x (sym (none_in_top p q) ∙ v));
  reached = reached;
}
  where
    reached : (n : ℕ) (k : List ℕ) → slice_get ([] ∷ []) n ≡ Some k → place_of ([] ∷ []) k ≡ Some n
    reached zero k h = ap (place_of ([] ∷ [])) (sym (same_Some [] k h))
    reached (suc n) k h = absurd (none-some k h)

-- the first place is the top
pub top_trie : (s : Shape) → IsTrie s → s.origins ≡ [] → (o : Origin) → IsTrie (grown s o)
top_trie s t e o =
    let names : s.names ≡ [] = nil_from_length s.names (t.names ∙ ap (λ os. length (keys os)) e) in
    let nodes : s.nodes ≡ [] = nil_from_length s.nodes (t.nodes ∙ ap (λ os. length (keys os)) e) in
    subst (λ os. IsTrieOf (keys (os ++ o ∷ [])) (with_name s.names o.above o.name (length os) ++ [] ∷ [])
    (s.nodes ++ None ∷ [])) (sym e)
    (subst (λ ns. IsTrieOf ([] ∷ []) (with_name ns o.above o.name 0 ++ [] ∷ []) (s.nodes ++ None ∷ [])) (sym names)
    (subst (λ xs. IsTrieOf ([] ∷ []) ([] ∷ []) (xs ++ None ∷ [])) (sym nodes) top_of))

entries_push : (ks : List (List ℕ)) (os : List (Option Node)) (k : List ℕ) → length os ≡ length ks
    → entries (ks ++ k ∷ []) (os ++ None ∷ []) ≡ entries ks os
entries_push [] [] k l = refl
entries_push [] (o ∷ os) k l = absurd (omega arith)
entries_push (x ∷ ks) [] k l = absurd (omega arith)
entries_push (x ∷ ks) (o ∷ os) k l = ap (λ es. with_key es x o) (entries_push ks os k (omega arith))

-- at a place that is new nothing stands
pub grown_entries : (s : Shape) → IsTrie s → (o : Origin) → entries_of (grown s o) ≡ entries_of s
grown_entries s t o =
    ap (λ ks. entries ks (s.nodes ++ None ∷ [])) (keys_grown [] s.origins o)
    ∙ entries_push (keys s.origins) s.nodes (key_in (keys s.origins) o) t.nodes

-- ---- growths taken back

pub grown_back : (s : Shape) → IsTrie s → (o : Origin) → child_of s.names (Some o.above) o.name ≡ None →
    cut (grown s o) ≡ s
grown_back s t o free =
    let count : length (s.origins ++ o ∷ []) - 1 ≡ length s.origins = let more : length
    (s.origins ++ o ∷ []) ≡ length s.origins + 1 = length_push s.origins o in omega arith in
    let number : length (with_name s.names o.above o.name (length s.origins)) ≡ length s.origins = length-set s.names
    o.above (insert_entry byte_order (get_or s.names o.above []) o.name (length s.origins))
    ∙ t.names ∙ count_keys s.origins in
    let origins : take (length (s.origins ++ o ∷ []) - 1) (s.origins ++ o ∷ []) ≡ s.origins =
    ap (λ n. take n (s.origins ++ o ∷ [])) count ∙ take_at s.origins (o ∷ []) (length s.origins) refl in
    let nodes : take (length (s.origins ++ o ∷ []) - 1) (s.nodes ++ None ∷ []) ≡ s.nodes =
    ap (λ n. take n (s.nodes ++ None ∷ [])) count ∙ take_at s.nodes (None ∷ []) (length s.origins)
    (t.nodes ∙ count_keys s.origins) in
    let names : without_origin (take (length (s.origins ++ o ∷ []) - 1)
    (with_name s.names o.above o.name (length s.origins) ++ [] ∷ []))
    (slice_get (s.origins ++ o ∷ []) (length (s.origins ++ o ∷ []) - 1)) ≡ s.names =
    ap (λ n. without_origin (take n (with_name s.names o.above o.name (length s.origins) ++ [] ∷ []))
    (slice_get (s.origins ++ o ∷ []) n)) count
    ∙ ap (λ ns. without_origin ns (slice_get (s.origins ++ o ∷ []) (length s.origins)))
    (take_at (with_name s.names o.above o.name (length s.origins)) ([] ∷ []) (length s.origins) number)
    ∙ ap (without_origin (with_name s.names o.above o.name (length s.origins))) (some_last s.origins o)
    ∙ named_back s.names o.above o.name (length s.origins) free in
    λ i. record { origins = origins i; names = names i; nodes = nodes i }

pub put_back : (s : Shape) (n : ℕ) (o before d : Option Node) → before ≡ get_or s.nodes n d
    → put_at (put_at s n o) n before ≡ s
put_back s n o before d h =
    let same : slice_set (slice_set s.nodes n o) n before ≡ s.nodes = set-set s.nodes n o before
    ∙ ap (slice_set s.nodes n) h ∙ set-get_or s.nodes n d in
    λ i. record { origins = s.origins; names = s.names; nodes = same i }

-- where there is no place, none has names
pub no_child : (s : Shape) → IsTrie s → s.origins ≡ [] → (p : ℕ) (name : List ℕ) → child_of s.names (Some p) name ≡ None
no_child s t e p name =
    let names : s.names ≡ [] = nil_from_length s.names (t.names ∙ ap (λ os. length (keys os)) e) in
    ap (λ ns. child_of ns (Some p) name) names

-- the first place is the top
pub top_key : (s : Shape) → IsTrie s → 0 < length s.origins → slice_get (keys s.origins) 0 ≡ Some []
top_key s t l = by (keys s.origins) refl
  where
    by : (ks : List (List ℕ)) → keys s.origins ≡ ks → slice_get (keys s.origins) 0 ≡ Some []
    by [] q = let none : length s.origins ≡ 0 = sym (count_keys s.origins) ∙ ap length q in absurd (omega arith)
    by (k ∷ ks) q = let first : slice_get (keys s.origins) 0 ≡ Some k = ap (λ l. slice_get l 0) q in
        first ∙ ap Some (t.top k first)
