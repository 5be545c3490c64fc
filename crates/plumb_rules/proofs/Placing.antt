-- The places of names.
use Rattle.std.proofs.Common.{◌≡◌, ℕ, zero, suc, ◌+◌, ◌-◌, ◌<◌, ◌≤◌, Bool, true, false, cond, List, [], ◌∷◌, ◌++◌}
use Rattle.std.proofs.Common.{length, get_or, drop, map, Option, Some, None, refl, ap, sym, ◌∙◌, arith}
use Rattle.std.specs.Prelude.{slice_set}
use Rattle.std.specs.Str.{bytes_eq}
use Rattle.std.specs.declared.cmp.Ordering.{Ordering}
use Rattle.std.specs.declared.cmp.Ordering.TheVariants.{Less, Equal, Greater}
use Rattle.std.specs.Cmp.{IsEquivalence}
use Rattle.std.specs.Ordering.{nat_cmp, is_eq}
use Rattle.std.specs.Cmp.Lexicographic.{slice_cmp, on_texts_equal}
use Rattle.std.specs.BTreeMap.{insert_entry, is_at}
use Rattle.std.specs.Map.{lookup}
use Rattle.std.proofs.lemmas.Bool.{false≢true}
use Rattle.std.proofs.lemmas.List.{drop_all, drop_more}
use Rattle.std.proofs.lemmas.Map.Text.{is_eq-slice_cmp}
use Rattle.plumb_msg.specs.declared.message.Attr.{Attr}
use Rattle.plumb_rules.specs.Attributes.{place_from, place_among, put_at, with_attr}

equal_bytes : IsEquivalence bytes_eq
equal_bytes = on_texts_equal (λ (x : List ℕ). x)

some_is : (m n : ℕ) → Some m ≡ Some n → m ≡ n
some_is m n e = cc

-- ---- a map of names

module _ {K : Type 0} (bytes : K → List ℕ) where
  abbrev pub shown : List (K × ℕ) → List (List ℕ × ℕ)
  shown es = map (λ e. (bytes e.0, e.1)) es

  pub found : (name : List ℕ) (es : List (K × ℕ)) → lookup (is_at (λ k. slice_cmp nat_cmp name (bytes k)))
      es ≡ place_among (shown es) name
  found name [] = refl
  found name (e ∷ es) =
      ap (λ (b : Bool). cond b (Some e.1) (lookup (is_at (λ k. slice_cmp nat_cmp name (bytes k))) es))
      (is_eq-slice_cmp name (bytes e.0) ∙ equal_bytes.symm name (bytes e.0))
      ∙ ap (λ (o : Option ℕ). cond (bytes_eq (bytes e.0) name) (Some e.1) o) (found name es)

  overwritten : (b : Bool) (v w : ℕ) (o : Option ℕ) → cond b (Some v) o ≡ cond b (Some v) (cond b (Some w) o)
  overwritten true v w o = refl
  overwritten false v w o = refl

  swapped : (b d : Bool) (v w : ℕ) (o : Option ℕ) → (b ≡ true → d ≡ true → ⊥)
      → cond b (Some v) (cond d (Some w) o) ≡ cond d (Some w) (cond b (Some v) o)
  swapped true true v w o h = absurd (h refl refl)
  swapped true false v w o h = refl
  swapped false d v w o h = refl

  pub found_put : (key : K) (place : ℕ) (es : List (K × ℕ)) (other : List ℕ)
      → place_among (shown (insert_entry (λ a b. slice_cmp nat_cmp (bytes a) (bytes b)) es key place))
      other ≡ cond (bytes_eq (bytes key) other) (Some place) (place_among (shown es) other)
  found_put key place [] other = refl
  found_put key place (e ∷ es) other = by (slice_cmp nat_cmp (bytes key) (bytes e.0)) refl
      (found_put key place es other)
    where
      equal : (r : Ordering) → slice_cmp nat_cmp (bytes key) (bytes e.0) ≡ r → bytes_eq (bytes key)
          (bytes e.0) ≡ is_eq r
      equal r h = sym (is_eq-slice_cmp (bytes key) (bytes e.0)) ∙ ap is_eq h

      same : bytes_eq (bytes key) (bytes e.0) ≡ true → bytes_eq (bytes key) other ≡ bytes_eq (bytes e.0) other
      same h = equal_bytes.congr (bytes key) (bytes e.0) other h

      apart : bytes_eq (bytes key) (bytes e.0) ≡ false → bytes_eq (bytes e.0) other ≡ true → bytes_eq (bytes key)
          other ≡ true → ⊥
      apart h d b = false≢true (sym h ∙ equal_bytes.congr (bytes key) other (bytes e.0) b
          ∙ equal_bytes.symm other (bytes e.0) ∙ d)

      by : (r : Ordering) → slice_cmp nat_cmp (bytes key) (bytes e.0) ≡ r
          → place_among (shown (insert_entry (λ a b. slice_cmp nat_cmp (bytes a) (bytes b)) es key place))
          other ≡ cond (bytes_eq (bytes key) other) (Some place) (place_among (shown es) other)
          → place_among (shown (insert_entry (λ a b. slice_cmp nat_cmp (bytes a) (bytes b)) (e ∷ es) key place))
          other ≡ cond (bytes_eq (bytes key) other) (Some place) (place_among (shown (e ∷ es)) other)
      by Less h later = rw h refl
      by Equal h later =
          rw h
          (overwritten (bytes_eq (bytes e.0) other) place e.1 (place_among (shown es) other)
          ∙ ap (λ (b : Bool). cond b (Some place) (cond (bytes_eq (bytes e.0) other) (Some e.1)
          (place_among (shown es) other))) (sym (same (equal Equal h))))
      by Greater h later =
          rw h
          (ap (λ (o : Option ℕ). cond (bytes_eq (bytes e.0) other) (Some e.1) o) later
          ∙ swapped (bytes_eq (bytes e.0) other) (bytes_eq (bytes key) other) e.1 place (place_among (shown es) other)
          (apart (equal Greater h)))

-- ---- the places of attributes

abbrev pub AreFrom : ℕ → List (List ℕ × ℕ) → List Attr → Type 0
AreFrom n places attrs = (name : List ℕ) → place_among places name ≡ place_from n attrs name

abbrev pub IsPut : List ℕ → ℕ → List (List ℕ × ℕ) → List (List ℕ × ℕ) → Type 0
IsPut name place old new = (other : List ℕ) → place_among new other ≡ cond (bytes_eq name other) (Some place)
    (place_among old other)

pub from_end : (attrs : List Attr) (name : List ℕ) → place_among [] name ≡ place_from (length attrs)
    (drop (length attrs) attrs) name
from_end attrs name = sym (ap (λ (l : List Attr). place_from (length attrs) l name)
    (drop_all (length attrs) attrs (omega arith)))

-- one place before
pub from_before : (old new : List (List ℕ × ℕ)) (attrs : List Attr) (n i : ℕ) (a : Attr) → n ≡ i + 1 → i < length attrs
    → AreFrom n old (drop n attrs) → IsPut (get_or attrs i a).name i old new → AreFrom i new (drop i attrs)
from_before old new attrs n i a e less h put name =
    put name
    ∙ ap (λ (o : Option ℕ). cond (bytes_eq (get_or attrs i a).name name) (Some i) o)
    (h name ∙ ap (λ (m : ℕ). place_from m (drop m attrs) name) e)
    ∙ sym (ap (λ (l : List Attr). place_from i l name) (drop_more attrs i a less))

pub ruleset before = (from_end, from_before)

-- ---- one attribute put

pub place_within : (n : ℕ) (attrs : List Attr) (name : List ℕ) (i : ℕ) → place_from n attrs name ≡ Some i → (n ≤ i)
    × (i < n + length attrs)
place_within n [] name i e = absurd cc
place_within n (a ∷ attrs) name i e = by (bytes_eq a.name name) (place_within (n + 1) attrs name i) e
  where
    by : (b : Bool) → (place_from (n + 1) attrs name ≡ Some i → (n + 1 ≤ i) × (i < n + 1 + length attrs))
        → cond b (Some n) (place_from (n + 1) attrs name) ≡ Some i → (n ≤ i) × (i < n + length (a ∷ attrs))
    by true later h = let is : n ≡ i = some_is n i h in (omega (arith, is), omega (arith, is))
    by false later h = let rest = later h in (omega (arith, rest.0), omega (arith, rest.1))

-- an attribute in place of one with its name leaves the places
place_set : (n : ℕ) (attrs : List Attr) (i : ℕ) (a : Attr) (name : List ℕ) → place_from n attrs a.name ≡ Some (n + i)
    → place_from n (slice_set attrs i a) name ≡ place_from n attrs name
place_set n [] i a name e = absurd cc
place_set n (x ∷ attrs) zero a name e = by (bytes_eq x.name a.name) refl e
  where
    by : (b : Bool) → bytes_eq x.name a.name ≡ b → cond b (Some n) (place_from (n + 1) attrs a.name) ≡ Some (n + zero)
        → place_from n (a ∷ attrs) name ≡ place_from n (x ∷ attrs) name
    by true t h = ap (λ (b : Bool). cond b (Some n) (place_from (n + 1) attrs name))
        (sym (equal_bytes.congr x.name a.name name t))
    by false t h = let in_rest = place_within (n + 1) attrs a.name (n + zero) h in absurd (omega (arith, in_rest.0))
place_set n (x ∷ attrs) (suc i) a name e = by (bytes_eq x.name a.name) (place_set (n + 1) attrs i a name) e
  where
    on : n + suc i ≡ n + 1 + i
    on = omega arith

    by : (b : Bool) → (place_from (n + 1) attrs a.name ≡ Some (n + 1 + i)
        → place_from (n + 1) (slice_set attrs i a) name ≡ place_from (n + 1) attrs name)
        → cond b (Some n) (place_from (n + 1) attrs a.name) ≡ Some (n + suc i)
        → place_from n (x ∷ slice_set attrs i a) name ≡ place_from n (x ∷ attrs) name
    by true later h = let is : n ≡ n + suc i = some_is n (n + suc i) h in absurd (omega (arith, is))
    by false later h = ap (λ (o : Option ℕ). cond (bytes_eq x.name name) (Some n) o)
        (later (h ∙ ap (λ (m : ℕ). Some m) on))

-- a new one has the last place
place_added : (n : ℕ) (attrs : List Attr) (a : Attr) (name : List ℕ)
    → place_from n attrs a.name ≡ None → place_from n (attrs ++ a ∷ []) name ≡ cond (bytes_eq a.name name)
    (Some (n + length attrs)) (place_from n attrs name)
place_added n [] a name e = ap (λ (m : ℕ). cond (bytes_eq a.name name) (Some m) None) (omega arith)
place_added n (x ∷ attrs) a name e = by (bytes_eq x.name a.name) (place_added (n + 1) attrs a name) refl e
  where
    on : n + 1 + length attrs ≡ n + length (x ∷ attrs)
    on = omega arith

    apart : bytes_eq x.name a.name ≡ false → bytes_eq x.name name ≡ true → bytes_eq a.name name ≡ true → ⊥
    apart t d b = false≢true (sym t ∙ equal_bytes.congr x.name name a.name d ∙ equal_bytes.symm name a.name ∙ b)

    swapped : (b d : Bool) (v w : ℕ) (o : Option ℕ) → (b ≡ true → d ≡ true → ⊥)
        → cond b (Some v) (cond d (Some w) o) ≡ cond d (Some w) (cond b (Some v) o)
    swapped true true v w o h = absurd (h refl refl)
    swapped true false v w o h = refl
    swapped false d v w o h = refl

    by : (b : Bool) → (place_from (n + 1) attrs a.name ≡ None → place_from (n + 1) (attrs ++ a ∷ [])
        name ≡ cond (bytes_eq a.name name) (Some (n + 1 + length attrs)) (place_from (n + 1) attrs name))
        → bytes_eq x.name a.name ≡ b → cond b (Some n) (place_from (n + 1) attrs a.name) ≡ None → place_from n
        (x ∷ (attrs ++ a ∷ [])) name ≡ cond (bytes_eq a.name name) (Some (n + length (x ∷ attrs)))
        (place_from n (x ∷ attrs) name)
    by true later t h = absurd cc
    by false later t h =
        ap (λ (o : Option ℕ). cond (bytes_eq x.name name) (Some n) o)
        (later h ∙ ap (λ (m : ℕ). cond (bytes_eq a.name name) (Some m) (place_from (n + 1) attrs name)) on)
        ∙ swapped (bytes_eq x.name name) (bytes_eq a.name name) n (n + length (x ∷ attrs))
        (place_from (n + 1) attrs name) (apart t)

pub inside : (places : List (List ℕ × ℕ)) (attrs : List Attr) (name : List ℕ) (i : ℕ) → AreFrom 0 places attrs
    → Some i ≡ place_among places name → i < length attrs
inside places attrs name i h e = let at = place_within 0 attrs name i (sym (h name) ∙ sym e) in omega (arith, at.1)

pub replaced : (places : List (List ℕ × ℕ)) (attrs : List Attr) (i : ℕ) (a : Attr) → AreFrom 0 places attrs
    → Some i ≡ place_among places a.name → AreFrom 0 places (slice_set attrs i a)
replaced places attrs i a h e name =
    let on : i ≡ 0 + i = omega arith in
    h name ∙ sym (place_set 0 attrs i a name (sym (h a.name) ∙ sym e ∙ ap (λ (m : ℕ). Some m) on))

pub pushed : (old new : List (List ℕ × ℕ)) (attrs : List Attr) (a : Attr) → AreFrom 0 old attrs
    → None ≡ place_among old a.name → IsPut a.name (length attrs) old new → AreFrom 0 new (attrs ++ a ∷ [])
pushed old new attrs a h e put name =
    let on : length attrs ≡ 0 + length attrs = omega arith in
    put name
    ∙ ap (λ (o : Option ℕ). cond (bytes_eq a.name name) (Some (length attrs)) o) (h name)
    ∙ ap (λ (m : ℕ). cond (bytes_eq a.name name) (Some m) (place_from 0 attrs name)) on
    ∙ sym (place_added 0 attrs a name (sym (h a.name) ∙ sym e))

pub set_is : (places : List (List ℕ × ℕ)) (attrs : List Attr) (i : ℕ) (a : Attr) → AreFrom 0 places attrs
    → Some i ≡ place_among places a.name → slice_set attrs i a ≡ with_attr attrs a
set_is places attrs i a h e = ap (λ (o : Option ℕ). put_at o attrs a) (e ∙ h a.name)

pub added_is : (places : List (List ℕ × ℕ)) (attrs : List Attr) (a : Attr) → AreFrom 0 places attrs
    → None ≡ place_among places a.name → attrs ++ a ∷ [] ≡ with_attr attrs a
added_is places attrs a h e = ap (λ (o : Option ℕ). put_at o attrs a) (e ∙ h a.name)

pub ruleset placing = (inside, replaced, pushed, set_is, added_is)
