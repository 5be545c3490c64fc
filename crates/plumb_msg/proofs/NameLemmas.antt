-- Names in byte order, attributes with their names apart, and names that differ.
use Rattle.std.proofs.Common.{◌≡◌, ℕ, ◌+◌, ◌<◌, ◌||◌, Bool, true, false, List, [], ◌∷◌, ◌++◌, length, get_or, take, map}
use Rattle.std.proofs.Common.{refl, ap, sym, subst, ◌∙◌}
use Rattle.std.specs.List.{list_any, IsDistinct, AllByRecursion}
use Rattle.std.specs.Str.{bytes_eq}
use Rattle.std.specs.declared.cmp.Ordering.{Ordering}
use Rattle.std.specs.declared.cmp.Ordering.TheVariants.{Less, Equal, Greater}
use Rattle.std.specs.Cmp.{IsEquivalence}
use Rattle.std.specs.Ordering.{nat_cmp, is_eq}
use Rattle.std.specs.Cmp.Lexicographic.{slice_cmp, on_texts_equal}
use Rattle.std.specs.BTreeMap.{is_at}
use Rattle.std.specs.BTreeSet.{insert_key}
use Rattle.std.proofs.Math.Bool.{or-false}
use Rattle.std.proofs.lemmas.List.{map-append}
use Rattle.std.proofs.lemmas.Map.Keys.{IsDistinct-push}
use Rattle.std.proofs.lemmas.Map.Text.{is_eq-slice_cmp}
use Rattle.std.proofs.lemmas.List.Folds.{list_any-append, list_any_more}
use Rattle.plumb_msg.specs.Grammar.{names_of}
use Rattle.plumb_msg.specs.Names.{is_known, is_among}
use Rattle.plumb_msg.specs.declared.message.Attr.{Attr}

equal_bytes : IsEquivalence bytes_eq
equal_bytes = on_texts_equal (λ (x : List ℕ). x)

either_way : (x y : Bool) → (x || y) ≡ (y || x)
either_way true true = refl
either_way true false = refl
either_way false true = refl
either_way false false = refl

said_twice : (x y : Bool) → ((x || y) || x) ≡ (x || y)
said_twice true y = refl
said_twice false true = refl
said_twice false false = refl

either_of : (x y z : Bool) → (x || (y || z)) ≡ ((x || y) || z)
either_of true y z = refl
either_of false y z = refl

-- ---- a set of names

module _ {K : Type 0} (bytes : K → List ℕ) where
  abbrev holds : List ℕ → List K → Bool
  holds name ks = list_any (is_at (λ k. slice_cmp nat_cmp name (bytes k))) ks

  pub found : (name : List ℕ) (ks : List K) → holds name ks ≡ is_among name (map bytes ks)
  found name [] = refl
  found name (k ∷ ks) =
      ap (λ (b : Bool). b || holds name ks) (is_eq-slice_cmp name (bytes k) ∙ equal_bytes.symm name (bytes k))
      ∙ ap (λ (b : Bool). bytes_eq (bytes k) name || b) (found name ks)

  pub found_inserted : (key : K) (ks : List K) (other : List ℕ) → is_among other
      (map bytes (insert_key (λ a b. slice_cmp nat_cmp (bytes a) (bytes b)) ks key))
      ≡ (is_among other (map bytes ks) || bytes_eq (bytes key) other)
  found_inserted key [] other = or-false (bytes_eq (bytes key) other)
  found_inserted key (k ∷ ks) other = by (slice_cmp nat_cmp (bytes key) (bytes k)) refl (found_inserted key ks other)
    where
      same : slice_cmp nat_cmp (bytes key) (bytes k) ≡ Equal → bytes_eq (bytes key) other ≡ bytes_eq (bytes k) other
      same h = equal_bytes.congr (bytes key) (bytes k) other (sym (is_eq-slice_cmp (bytes key) (bytes k)) ∙ ap is_eq h)

      by : (r : Ordering) → slice_cmp nat_cmp (bytes key) (bytes k) ≡ r → is_among other
          (map bytes (insert_key (λ a b. slice_cmp nat_cmp (bytes a) (bytes b)) ks key))
          ≡ (is_among other (map bytes ks) || bytes_eq (bytes key) other)
          → is_among other (map bytes (insert_key (λ a b. slice_cmp nat_cmp (bytes a) (bytes b)) (k ∷ ks) key))
          ≡ (is_among other (map bytes (k ∷ ks)) || bytes_eq (bytes key) other)
      by Less h later = rw h (either_way (bytes_eq (bytes key) other) (is_among other (map bytes (k ∷ ks))))
      by Equal h later = rw h (sym (ap (λ (b : Bool). is_among other (map bytes (k ∷ ks)) || b) (same h)
          ∙ said_twice (bytes_eq (bytes k) other) (is_among other (map bytes ks))))
      by Greater h later = rw h (ap (λ (b : Bool). bytes_eq (bytes k) other || b) later
          ∙ either_of (bytes_eq (bytes k) other) (is_among other (map bytes ks)) (bytes_eq (bytes key) other))

-- ---- one attribute more

abbrev pub AreTheirs : List (List ℕ) → List Attr → Type 0
AreTheirs names attrs = (name : List ℕ) → is_among name names ≡ is_known name attrs

abbrev pub IsPut : List ℕ → List (List ℕ) → List (List ℕ) → Type 0
IsPut name old new = (other : List ℕ) → is_among other new ≡ (is_among other old || bytes_eq name other)

pub theirs_one : (old new : List (List ℕ)) (attrs : List Attr) (a : Attr) → AreTheirs old attrs → IsPut a.name old new
    → AreTheirs new (attrs ++ a ∷ [])
theirs_one old new attrs a h put name =
    put name ∙ ap (λ (b : Bool). b || bytes_eq a.name name) (h name)
    ∙ sym (list_any-append (λ (x : Attr). bytes_eq x.name name) attrs (a ∷ [])
    ∙ ap (λ (b : Bool). is_known name attrs || b) (or-false (bytes_eq a.name name)))

pub theirs_more : (old new : List (List ℕ)) (attrs : List Attr) (i : ℕ) (a : Attr) → i < length attrs
    → AreTheirs old (take i attrs) → IsPut (get_or attrs i a).name old new → AreTheirs new (take (i + 1) attrs)
theirs_more old new attrs i a less h put name =
    put name ∙ ap (λ (b : Bool). b || bytes_eq (get_or attrs i a).name name) (h name)
    ∙ sym (list_any_more (λ (x : Attr). bytes_eq x.name name) attrs i a less)

pub ruleset naming = (theirs_one, theirs_more)

-- ---- names that differ

known_name : (name : List ℕ) (attrs : List Attr) → list_any (bytes_eq name) (names_of attrs) ≡ is_known name attrs
known_name name [] = refl
known_name name (a ∷ attrs) =
    ap (λ (b : Bool). b || list_any (bytes_eq name) (names_of attrs)) (equal_bytes.symm name a.name)
    ∙ ap (λ (b : Bool). bytes_eq a.name name || b) (known_name name attrs)

-- one attribute more, whose name none before it has
pub names_more : (attrs : List Attr) (a : Attr) → IsDistinct bytes_eq (names_of attrs)
    → is_known a.name attrs ≡ false → IsDistinct bytes_eq (names_of (attrs ++ a ∷ []))
names_more attrs a h fresh =
    subst (IsDistinct bytes_eq) (sym (map-append (λ (x : Attr). x.name) attrs (a ∷ [])))
    (IsDistinct-push equal_bytes (names_of attrs) a.name h (known_name a.name attrs ∙ fresh))

apart_there : (name : List ℕ) (before : List Attr) (a : Attr) (after : List Attr)
    → AllByRecursion (λ other. bytes_eq name other ≡ false) (names_of (before ++ a ∷ after))
    → bytes_eq name a.name ≡ false
apart_there name [] a after h = h.0
apart_there name (x ∷ before) a after h = apart_there name before a after h.1

-- none of those before it has the name
pub names_fresh : (before : List Attr) (a : Attr) (after : List Attr)
    → IsDistinct bytes_eq (names_of (before ++ a ∷ after)) → is_known a.name before ≡ false
unfolding IsDistinct
names_fresh [] a after h = refl
names_fresh (x ∷ before) a after h = ap (λ (b : Bool). b || is_known a.name before)
    (apart_there x.name before a after h.0) ∙ names_fresh before a after h.1
