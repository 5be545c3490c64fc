-- Rows as one, in order.
use Rattle.std.proofs.Common.{◌≡◌, ℕ, ◌≤◌, ◌||◌, Bool, true, false, cond, List, [], ◌∷◌, ◌++◌, filter, refl, sym, ap}
use Rattle.std.proofs.Common.{◌∙◌, arith, All}
use Rattle.std.specs.Prelude.{nat_lt}
use Rattle.std.specs.List.{list_any}
use Rattle.std.proofs.lemmas.Bool.Decides.{nat_tests}
use Rattle.std.proofs.lemmas.List.Elements.{All-nil, All-cons, All-head, All-tail, All-append, filter-append}
use Rattle.std.proofs.lemmas.List.Folds.{list_any-append}
use Rattle.fid_table.specs.Tables.{Tables}
use Rattle.core_events.specs.declared.response.Response.{Response}
use Rattle.core_steps.specs.Order.{older, younger, merged, in_order, place_in, as_asked, IsFrom, KeepsRows}
use Rattle.core_steps.specs.Order.{StaysInOrder}

-- where a list is empty, both of its parts are
first_of : {B : Type 0} (a b : List B) → a ++ b ≡ [] → a ≡ []
first_of [] b h = refl
first_of (x ∷ a) b h = absurd cc

second_of : {B : Type 0} (a b : List B) → a ++ b ≡ [] → b ≡ []
second_of [] b h = h
second_of (x ∷ a) b h = absurd cc

or_false : (b : Bool) → (b || false) ≡ b
or_false true = refl
or_false false = refl

any_moved : (o y n s : Bool) → (o || (y || (n || s))) ≡ ((o || n) || (y || s))
any_moved true y n s = refl
any_moved false true true s = refl
any_moved false true false s = refl
any_moved false false n s = refl

module _ {X : Type 0} (age : X → ℕ) where
  -- both parts of a row
  pub split : (n : ℕ) (xs : List X) → older age n xs ++ younger age n xs ≡ xs
  split n [] = refl
  split n (x ∷ xs) =
      elim (nat_lt n (age x)) as (λ b. cond b [] (x ∷ older age n xs) ++ cond b (x ∷ xs) (younger age n xs) ≡ x ∷ xs) [
        | true ↦ refl
        | false ↦ ap (λ (ys : List X). x ∷ ys) (split n xs)
      ]

  pub merged_none : (ys : List X) → merged age ys [] ≡ ys
  merged_none [] = refl
  merged_none (y ∷ ys) = ap (λ (zs : List X). y ∷ zs) (merged_none ys)

  -- ---- what is told of a list part by part

  module _ {B : Type 0} (g : List X → List B) (more : (xs ys : List X) → g (xs ++ ys) ≡ g xs ++ g ys) (none : g [] ≡ [])
    where
      told_split : (n : ℕ) (row : List X) → g (older age n row) ++ g (younger age n row) ≡ g row
      told_split n row = sym (more (older age n row) (younger age n row)) ∙ ap g (split n row)

      -- where nothing is told of the others
      pub told_row : (ys row : List X) → g ys ≡ [] → g (merged age ys row) ≡ g row
      told_row [] row h = refl
      told_row (y ∷ ys) row h =
          let old : List X = older age (age y) row in
          let young : List X = younger age (age y) row in
          let parts : g (y ∷ []) ++ g ys ≡ [] = sym (more (y ∷ []) ys) ∙ h in
          more old (y ∷ merged age ys young)
          ∙ ap (λ (l : List B). g old ++ l) (more (y ∷ []) (merged age ys young)
          ∙ ap (λ (l : List B). l ++ g (merged age ys young)) (first_of (g (y ∷ [])) (g ys) parts)
          ∙ told_row ys young (second_of (g (y ∷ [])) (g ys) parts))
          ∙ told_split (age y) row

      -- where nothing is told of the row
      pub told_others : (ys row : List X) → g row ≡ [] → g (merged age ys row) ≡ g ys
      told_others [] row h = h ∙ sym none
      told_others (y ∷ ys) row h =
          let old : List X = older age (age y) row in
          let young : List X = younger age (age y) row in
          let parts : g old ++ g young ≡ [] = told_split (age y) row ∙ h in
          more old (y ∷ merged age ys young)
          ∙ ap (λ (l : List B). l ++ g (y ∷ merged age ys young)) (first_of (g old) (g young) parts)
          ∙ more (y ∷ []) (merged age ys young)
          ∙ ap (λ (l : List B). g (y ∷ []) ++ l) (told_others ys young (second_of (g old) (g young) parts))
          ∙ sym (more (y ∷ []) ys)

      told_none : (rows : List (List X)) → All (λ other. g other ≡ []) rows → g (in_order age rows) ≡ []
      told_none [] h = none
      told_none (row ∷ rows) h =
          told_others (in_order age rows) row (All-head (λ other. g other ≡ []) row rows h)
          ∙ told_none rows (All-tail (λ other. g other ≡ []) row rows h)

      pub told_one : (before behind : List (List X)) (row : List X) → All (λ other. g other ≡ []) before
          → All (λ other. g other ≡ []) behind → g (in_order age (before ++ row ∷ behind)) ≡ g row
      told_one [] behind row b h = told_row (in_order age behind) row (told_none behind h)
      told_one (other ∷ before) behind row b h =
          told_others (in_order age (before ++ row ∷ behind)) other (All-head (λ o. g o ≡ []) other before b)
          ∙ told_one before behind row (All-tail (λ o. g o ≡ []) other before b) h

  -- ---- order

  put_in : (n : ℕ) (y : X) (rest : List X → List X) (row : List X) → n ≤ age y → IsFrom age n row
      → ((zs : List X) → IsFrom age (age y) zs → IsFrom age (age y) (rest zs))
      → IsFrom age n (older age (age y) row ++ y ∷ rest (younger age (age y) row))
  put_in n y rest [] l h r = (l, r [] tt)
  put_in n y rest (x ∷ row) l h r = by (nat_lt (age y) (age x)) refl (λ less. put_in (age x) y rest row less h.1 r)
    where
      by : (b : Bool) → nat_lt (age y) (age x) ≡ b
          → (age x ≤ age y → IsFrom age (age x) (older age (age y) row ++ y ∷ rest (younger age (age y) row)))
          → IsFrom age n (cond b [] (x ∷ older age (age y) row) ++ y ∷ rest
          (cond b (x ∷ row) (younger age (age y) row)))
      by true e next = let more : age y ≤ age x = grind (arith, nat_tests) in (l, r (x ∷ row) (more, h.1))
      by false e next = let less : age x ≤ age y = grind (arith, nat_tests) in (h.0, next less)

  merged_from : (n : ℕ) (ys row : List X) → IsFrom age n ys → IsFrom age n row → IsFrom age n (merged age ys row)
  merged_from n [] row a b = b
  merged_from n (y ∷ ys) row a b = put_in n y (merged age ys) row a.0 b (λ zs c. merged_from (age y) ys zs a.1 c)

  pub rows_from : (n : ℕ) (rows : List (List X)) → All (IsFrom age n) rows → IsFrom age n (in_order age rows)
  rows_from n [] h = tt
  rows_from n (row ∷ rows) h =
      merged_from n (in_order age rows) row (rows_from n rows (All-tail (IsFrom age n) row rows h))
      (All-head (IsFrom age n) row rows h)

  -- ---- what holds of each

  module _ (P : X → Type 0) where
    older_all : (n : ℕ) (xs : List X) → All P xs → All P (older age n xs)
    older_all n [] h = All-nil P
    older_all n (x ∷ xs) h =
        elim (nat_lt n (age x)) as (λ b. All P (cond b [] (x ∷ older age n xs))) [
          | true ↦ All-nil P
          | false ↦ All-cons P x (older age n xs) (All-head P x xs h) (older_all n xs (All-tail P x xs h))
        ]

    younger_all : (n : ℕ) (xs : List X) → All P xs → All P (younger age n xs)
    younger_all n [] h = All-nil P
    younger_all n (x ∷ xs) h =
        elim (nat_lt n (age x)) as (λ b. All P (cond b (x ∷ xs) (younger age n xs))) [
          | true ↦ h
          | false ↦ younger_all n xs (All-tail P x xs h)
        ]

    pub merged_all : (ys row : List X) → All P ys → All P row → All P (merged age ys row)
    merged_all [] row a b = b
    merged_all (y ∷ ys) row a b =
        All-append P (older age (age y) row) (y ∷ merged age ys (younger age (age y) row)) (older_all (age y) row b)
        (All-cons P y (merged age ys (younger age (age y) row)) (All-head P y ys a)
        (merged_all ys (younger age (age y) row) (All-tail P y ys a) (younger_all (age y) row b)))

  -- ---- whether one passes a test

  module _ (p : X → Bool) where
    any_split : (n : ℕ) (row : List X)
        → (list_any p (older age n row) || list_any p (younger age n row)) ≡ list_any p row
    any_split n row = sym (list_any-append p (older age n row) (younger age n row)) ∙ ap (list_any p) (split n row)

    pub any_merged : (ys row : List X) → list_any p (merged age ys row) ≡ (list_any p row || list_any p ys)
    any_merged [] row = sym (or_false (list_any p row))
    any_merged (y ∷ ys) row =
        let old : List X = older age (age y) row in
        let young : List X = younger age (age y) row in
        list_any-append p old (y ∷ merged age ys young)
        ∙ ap (λ (b : Bool). list_any p old || (p y || b)) (any_merged ys young)
        ∙ any_moved (list_any p old) (p y) (list_any p young) (list_any p ys)
        ∙ ap (λ (b : Bool). b || (p y || list_any p ys)) (any_split (age y) row)

pub rows_kept : KeepsRows
rows_kept age test before row behind b h = told_one age (filter test) (filter-append test) refl before behind row b h

pub rows_ordered : StaysInOrder
rows_ordered age n rows h = rows_from age n rows h

-- ---- answers of three kinds

-- where the others have none, it is the row of the first
pub first_alone : (t : Tables) (xs ys zs : List Response) → ys ≡ [] → zs ≡ [] → as_asked t (xs ∷ ys ∷ zs ∷ []) ≡ xs
first_alone t xs ys zs e h =
    ap (λ (l : List Response). merged (place_in t) (merged (place_in t) zs l) xs) e
    ∙ ap (λ (l : List Response). merged (place_in t) l xs) (merged_none (place_in t) zs ∙ h)

-- where the first has none, it is what the others are
pub first_empty : (t : Tables) (xs ys zs : List Response) → xs ≡ []
    → as_asked t (xs ∷ ys ∷ zs ∷ []) ≡ as_asked t (ys ∷ zs ∷ [])
first_empty t xs ys zs e =
    ap (λ (l : List Response). merged (place_in t) (merged (place_in t) zs ys) l) e
    ∙ merged_none (place_in t) (merged (place_in t) zs ys)

pub none_asked : (t : Tables) (xs ys zs : List Response) → xs ≡ [] → ys ≡ [] → zs ≡ []
    → as_asked t (xs ∷ ys ∷ zs ∷ []) ≡ []
none_asked t xs ys zs e h l = first_alone t xs ys zs h l ∙ e

-- what holds of each answer
pub all_asked : (P : Response → Type 0) (t : Tables) (xs ys zs : List Response) → All P xs → All P ys → All P zs
    → All P (as_asked t (xs ∷ ys ∷ zs ∷ []))
all_asked P t xs ys zs a b c =
    merged_all (place_in t) P (merged (place_in t) zs ys) xs (merged_all (place_in t) P zs ys c b) a

-- whether an answer passes a test
pub any_asked : (p : Response → Bool) (t : Tables) (xs ys zs : List Response)
    → list_any p (as_asked t (xs ∷ ys ∷ zs ∷ [])) ≡ (list_any p xs || (list_any p ys || list_any p zs))
any_asked p t xs ys zs =
    any_merged (place_in t) p (merged (place_in t) zs ys) xs
    ∙ ap (λ (b : Bool). list_any p xs || b) (any_merged (place_in t) p zs ys)

-- what is told of one kind alone
module _ {B : Type 0} (g : List Response → List B) (more : (xs ys : List Response) → g (xs ++ ys) ≡ g xs ++ g ys)
    (none : g [] ≡ []) where
  pub told_first : (t : Tables) (xs ys zs : List Response) → g ys ≡ [] → g zs ≡ []
      → g (as_asked t (xs ∷ ys ∷ zs ∷ [])) ≡ g xs
  told_first t xs ys zs h l =
      told_row (place_in t) g more none (merged (place_in t) zs ys) xs
      (told_others (place_in t) g more none zs ys h ∙ l)

  pub told_second : (t : Tables) (xs ys zs : List Response) → g xs ≡ [] → g zs ≡ []
      → g (as_asked t (xs ∷ ys ∷ zs ∷ [])) ≡ g ys
  told_second t xs ys zs h l =
      told_others (place_in t) g more none (merged (place_in t) zs ys) xs h
      ∙ told_row (place_in t) g more none zs ys l

  pub told_third : (t : Tables) (xs ys zs : List Response) → g xs ≡ [] → g ys ≡ []
      → g (as_asked t (xs ∷ ys ∷ zs ∷ [])) ≡ g zs
  told_third t xs ys zs h l =
      told_others (place_in t) g more none (merged (place_in t) zs ys) xs h
      ∙ told_others (place_in t) g more none zs ys l
