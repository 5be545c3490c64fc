-- Entries in order: what keeps the order, and when two lists of entries are the same.
use Rattle.std.proofs.Common.{◌≡◌, ℕ, Bool, true, false, cond, List, [], ◌∷◌, Some, None, is_some, refl, sym, ap, subst}
use Rattle.std.proofs.Common.{◌∙◌}
use Rattle.std.proofs.lemmas.Cmp.{tied_itself, nat_list_cmp_total}
use Rattle.std.proofs.lemmas.Map.{keys-set_value}
use Rattle.std.proofs.lemmas.Map.Text.{is_eq-slice_cmp}
use Rattle.std.proofs.lemmas.Option.{none-some, same_Some}
use Rattle.std.specs.Cmp.{Equal-is}
use Rattle.std.specs.Cmp.Lexicographic.{bytes_decides}
use Rattle.std.specs.declared.cmp.Ordering.{Ordering}
use Rattle.std.specs.declared.cmp.Ordering.TheVariants.{Less, Equal, Greater}
use Rattle.std.specs.Ordering.{is_eq, ordering_reverse}
use Rattle.std.specs.List.{AllByRecursion}
use Rattle.std.specs.List.Sorted.{IsStrictlySortedBy}
use Rattle.std.specs.Map.{keys_of}
use Rattle.std.specs.BTreeMap.{is_at}
use Rattle.name_tree.specs.Entries.{byte_order, entry_at, inserted, replaced, with_node}
use Rattle.name_tree.specs.Laws.{IsOrdered, is_same}
use Rattle.name_tree.specs.declared.types.Node.{Node}
use Rattle.name_tree.proofs.MapLemmas.{entry_same}

-- two paths that compare as equal are the same
pub same_path : (a b : List ℕ) → is_same a b ≡ true → a ≡ b
same_path a b h = (bytes_decides a b).0 (sym (is_eq-slice_cmp a b) ∙ h)

pub same_itself : (a : List ℕ) → is_same a a ≡ true
same_itself a = ap is_eq (tied_itself nat_list_cmp_total a)

turned : (a b : List ℕ) → byte_order a b ≡ Greater → byte_order b a ≡ Less
turned a b h = nat_list_cmp_total.antisymm b a ∙ ap ordering_reverse h

all_less : (a b : List ℕ) (ks : List (List ℕ)) → byte_order a b ≡ Less → AllByRecursion (λ k. byte_order b k ≡ Less) ks
    → AllByRecursion (λ k. byte_order a k ≡ Less) ks
all_less a b [] l h = tt
all_less a b (k ∷ ks) l h = (nat_list_cmp_total.trans a b k l h.0, all_less a b ks l h.1)

-- what is less than all paths isn't among them
pub absent : (path : List ℕ) (es : List (List ℕ × Node)) → AllByRecursion (λ k. byte_order path k ≡ Less) (keys_of es)
    → entry_at es path ≡ None
absent path [] h = refl
absent path (e ∷ es) h = rw h.0 (absent path es h.1)

here : (e : List ℕ × Node) (es : List (List ℕ × Node)) → entry_at (e ∷ es) e.0 ≡ Some e.1
here e es = rw (tied_itself nat_list_cmp_total e.0) refl

inserted_all : (a : List ℕ) (es : List (List ℕ × Node)) (path : List ℕ) (node : Node)
    → AllByRecursion (λ k. byte_order a k ≡ Less) (keys_of es) → byte_order a path ≡ Less →
    AllByRecursion (λ k. byte_order a k ≡ Less) (keys_of (inserted es path node))
inserted_all a [] path node h l = (l, tt)
inserted_all a (e ∷ es) path node h l = by (byte_order path e.0) refl (inserted_all a es path node h.1 l)
  where
    by : (r : Ordering) → byte_order path e.0 ≡ r → AllByRecursion (λ k. byte_order a k ≡ Less)
        (keys_of (inserted es path node)) → AllByRecursion (λ k. byte_order a k ≡ Less)
        (keys_of (inserted (e ∷ es) path node))
    by Less q later = rw q (l, h)
    by Equal q later = rw q h
    by Greater q later = rw q (h.0, later)

inserted_in : (e : List ℕ × Node) (es : List (List ℕ × Node)) (path : List ℕ) (node : Node) → IsOrdered (e ∷ es)
    → (r : Ordering) → byte_order path e.0 ≡ r → IsOrdered (inserted es path node)
    → IsOrdered (inserted (e ∷ es) path node)
unfolding IsStrictlySortedBy
inserted_in e es path node h Less q later = rw q ((q, all_less path e.0 (keys_of es) q h.0), h)
inserted_in e es path node h Equal q later = rw q h
inserted_in e es path node h Greater q later = rw q (inserted_all e.0 es path node h.0 (turned path e.0 q), later)

inserted_ordered : (es : List (List ℕ × Node)) (path : List ℕ) (node : Node) → IsOrdered es
    → IsOrdered (inserted es path node)
unfolding IsStrictlySortedBy
inserted_ordered [] path node h = (tt, tt)
inserted_ordered (e ∷ es) path node h = inserted_in e es path node h (byte_order path e.0) refl
    (inserted_ordered es path node h.1)

pub with_ordered : (es : List (List ℕ × Node)) (path : List ℕ) (node : Node) → IsOrdered es
    → IsOrdered (with_node es path node)
with_ordered es path node h = by (is_some (entry_at es path))
  where
    by : (b : Bool) → IsOrdered (cond b (replaced es path node) (inserted es path node))
    by true = subst (λ ks. IsStrictlySortedBy byte_order ks) (sym (keys-set_value (is_at (byte_order path)) es node)) h
    by false = inserted_ordered es path node h

same_tail : (a b : List ℕ × Node) (xs ys : List (List ℕ × Node)) → AllByRecursion (λ k. byte_order a.0 k ≡ Less)
    (keys_of xs) → AllByRecursion (λ k. byte_order b.0 k ≡ Less) (keys_of ys) → a.0 ≡ b.0 → (path : List ℕ)
    → entry_at (a ∷ xs) path ≡ entry_at (b ∷ ys) path → entry_at xs path ≡ entry_at ys path
same_tail a b xs ys h g same path f = by (is_same path a.0) refl
  where
    by : (t : Bool) → is_same path a.0 ≡ t → entry_at xs path ≡ entry_at ys path
    by true q =
        entry_same xs path a.0 ((Equal-is (byte_order path a.0)).0 q) ∙ absent a.0 xs h
        ∙ sym (entry_same ys path b.0 ((Equal-is (byte_order path b.0)).0 (ap (λ k. is_same path k) (sym same) ∙ q))
        ∙ absent b.0 ys g)
    by false q =
        ap (λ t. cond t (Some a.1) (entry_at xs path)) (sym q) ∙ f
        ∙ ap (λ t. cond t (Some b.1) (entry_at ys path)) (ap (λ k. is_same path k) (sym same) ∙ q)

joined : (a b : List ℕ × Node) (xs ys : List (List ℕ × Node)) → IsOrdered (a ∷ xs) → IsOrdered (b ∷ ys)
    → ((path : List ℕ) → entry_at (a ∷ xs) path ≡ entry_at (b ∷ ys) path) → (r : Ordering)
    → byte_order a.0 b.0 ≡ r → (((path : List ℕ) → entry_at xs path ≡ entry_at ys path) → xs ≡ ys) → a ∷ xs ≡ b ∷ ys
unfolding IsStrictlySortedBy
joined a b xs ys h g f Less q later = absurd (none-some a.1 (sym (absent a.0 (b ∷ ys)
    (q, all_less a.0 b.0 (keys_of ys) q g.0)) ∙ sym (f a.0) ∙ here a xs))
joined a b xs ys h g f Greater q later =
    let l : byte_order b.0 a.0 ≡ Less = turned a.0 b.0 q in
    absurd (none-some b.1 (sym (absent b.0 (a ∷ xs) (l, all_less b.0 a.0 (keys_of xs) l h.0)) ∙ f b.0 ∙ here b ys))
joined a b xs ys h g f Equal q later =
    let key : a.0 ≡ b.0 = same_path a.0 b.0 (ap is_eq q) in
    let value : a.1 ≡ b.1 = same_Some a.1 b.1 (sym (here a xs) ∙ f a.0
    ∙ ap (λ t. cond t (Some b.1) (entry_at ys a.0)) (ap is_eq q)) in
    let rest : xs ≡ ys = later (λ path. same_tail a b xs ys h.0 g.0 key path (f path)) in λ i. (key i, value i) ∷ rest i

-- ordered entries at which the same is found are the same
pub same_entries : (xs ys : List (List ℕ × Node)) → IsOrdered xs → IsOrdered ys
    → ((path : List ℕ) → entry_at xs path ≡ entry_at ys path) → xs ≡ ys
unfolding IsStrictlySortedBy
same_entries [] [] h g f = refl
same_entries [] (b ∷ ys) h g f = absurd (none-some b.1 (f b.0 ∙ here b ys))
same_entries (a ∷ xs) [] h g f = absurd (none-some a.1 (sym (f a.0) ∙ here a xs))
same_entries (a ∷ xs) (b ∷ ys) h g f = joined a b xs ys h g f (byte_order a.0 b.0) refl (same_entries xs ys h.1 g.1)
