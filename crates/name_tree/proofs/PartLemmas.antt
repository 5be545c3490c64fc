-- Paths by their parts, from one place of the text to the next.
use Rattle.std.proofs.Common.{◌≡◌, ◌||◌, ◌==◌, ◌+◌, ◌-◌, ◌<◌, ◌≤◌, ℕ, Bool, true, false, cond, not, List, [], ◌∷◌, ◌++◌}
use Rattle.std.proofs.Common.{length, take, drop, get_or, Option, Some, None, refl, sym, ap, subst, ◌∙◌, arith}
use Rattle.std.specs.Prelude.{slice_range, slice_get, IsSomeAnd}
use Rattle.std.proofs.lemmas.Bool.{eqb-true}
use Rattle.std.specs.List.{list_any}
use Rattle.std.proofs.lemmas.List.{take_more, drop_more, get_or-drop, length-drop, append-nil, append_assoc, take_all}
use Rattle.am_text.specs.Ascii.{slash}
use Rattle.name_tree.specs.Shape.{child_of, walk, is_name}

-- a part that begins here is empty so far
pub part_none : (path : List ℕ) (k : ℕ) → slice_range path k k ≡ []
part_none path k = let none : k - k ≡ 0 = omega arith in ap (λ n. take n (drop k path)) none

-- a part with one byte more
pub part_more : (path : List ℕ) (start k d : ℕ) → start ≤ k → k < length path
    → slice_range path start (k + 1) ≡ slice_range path start k ++ get_or path k d ∷ []
part_more path start k d b l =
    let count : (k + 1) - start ≡ (k - start) + 1 = omega arith in
    let all : length (drop start path) ≡ length path - start = length-drop start path in
    let inside : k - start < length (drop start path) = omega arith in
    let at : start + (k - start) ≡ k = omega arith in
    ap (λ n. take n (drop start path)) count ∙ take_more (drop start path) (k - start) d inside
    ∙ ap (λ x. slice_range path start k ++ x ∷ []) (get_or-drop start path (k - start) d ∙ ap (λ n. get_or path n d) at)

-- the last part
pub part_all : (path : List ℕ) (start k : ℕ) → length path ≤ k → slice_range path start k ≡ drop start path
part_all path start k l =
    let all : length (drop start path) ≡ length path - start = length-drop start path in
    take_all (k - start) (drop start path) (omega arith)

-- a walk over one byte more, which ends a part
pub walk_slash : (names : List (List (List ℕ × ℕ))) (place : Option ℕ) (path : List ℕ) (start k d : ℕ) → k < length path
    → (get_or path k d == slash) ≡ true → walk names place (slice_range path start k) (drop k path) ≡ walk names
    (child_of names place (slice_range path start k)) (slice_range path (k + 1) (k + 1)) (drop (k + 1) path)
walk_slash names place path start k d l h =
    ap (walk names place (slice_range path start k)) (drop_more path k d l)
    ∙ ap (λ t. cond t (walk names (child_of names place (slice_range path start k)) [] (drop (k + 1) path))
    (walk names place (slice_range path start k ++ get_or path k d ∷ []) (drop (k + 1) path))) h
    ∙ ap (λ p. walk names (child_of names place (slice_range path start k)) p (drop (k + 1) path))
    (sym (part_none path (k + 1)))

-- or doesn't
pub walk_byte : (names : List (List (List ℕ × ℕ))) (place : Option ℕ) (path : List ℕ) (start k d : ℕ) → start ≤ k
    → k < length path → (get_or path k d == slash) ≡ false → walk names place (slice_range path start k)
    (drop k path) ≡ walk names place (slice_range path start (k + 1)) (drop (k + 1) path)
walk_byte names place path start k d b l h =
    ap (walk names place (slice_range path start k)) (drop_more path k d l)
    ∙ ap (λ t. cond t (walk names (child_of names place (slice_range path start k)) [] (drop (k + 1) path))
    (walk names place (slice_range path start k ++ get_or path k d ∷ []) (drop (k + 1) path))) h
    ∙ ap (λ p. walk names place p (drop (k + 1) path)) (sym (part_more path start k d b l))

-- ---- a walk so far, whatever comes after it

-- where the first k bytes lead
abbrev pub IsSoFar : List (List (List ℕ × ℕ)) → Option ℕ → List ℕ → ℕ → ℕ → Type 0
IsSoFar names place path start k = (rest : List ℕ) → walk names (Some 0) [] (take k path ++ rest) ≡ walk names place
    (slice_range path start k) rest

taken : (path : List ℕ) (k d : ℕ) (rest : List ℕ) → k < length path → take (k + 1) path ++ rest ≡ take k path
    ++ get_or path k d ∷ rest
taken path k d rest l = ap (λ t. t ++ rest) (take_more path k d l)
    ∙ append_assoc (take k path) (get_or path k d ∷ []) rest

pub so_far_slash : (names : List (List (List ℕ × ℕ))) (place : Option ℕ) (path : List ℕ) (start k d : ℕ)
    → k < length path → (get_or path k d == slash) ≡ true → IsSoFar names place path start k
    → IsSoFar names (child_of names place (slice_range path start k)) path (k + 1) (k + 1)
so_far_slash names place path start k d l h f = λ rest.
    ap (walk names (Some 0) []) (taken path k d rest l) ∙ f (get_or path k d ∷ rest)
    ∙ ap (λ t. cond t (walk names (child_of names place (slice_range path start k)) [] rest)
    (walk names place (slice_range path start k ++ get_or path k d ∷ []) rest)) h
    ∙ ap (λ p. walk names (child_of names place (slice_range path start k)) p rest) (sym (part_none path (k + 1)))

pub so_far_byte : (names : List (List (List ℕ × ℕ))) (place : Option ℕ) (path : List ℕ) (start k d : ℕ) → start ≤ k
    → k < length path → (get_or path k d == slash) ≡ false → IsSoFar names place path start k
    → IsSoFar names place path start (k + 1)
so_far_byte names place path start k d b l h f = λ rest.
    ap (walk names (Some 0) []) (taken path k d rest l) ∙ f (get_or path k d ∷ rest)
    ∙ ap (λ t. cond t (walk names (child_of names place (slice_range path start k)) [] rest)
    (walk names place (slice_range path start k ++ get_or path k d ∷ []) rest)) h
    ∙ ap (λ p. walk names place p rest) (sym (part_more path start k d b l))

-- the place of the first k bytes
pub so_far_place : (names : List (List (List ℕ × ℕ))) (place : Option ℕ) (path : List ℕ) (start k : ℕ)
    → IsSoFar names place path start k → walk names (Some 0) [] (take k path) ≡ child_of names place
    (slice_range path start k)
so_far_place names place path start k f = ap (walk names (Some 0) []) (sym (append-nil (take k path))) ∙ f []

-- ---- names

any_push : (test : ℕ → Bool) (xs : List ℕ) (x : ℕ) → list_any test xs ≡ false → test x ≡ false → list_any test
    (xs ++ x ∷ []) ≡ false
any_push test [] x h g = rw g refl
any_push test (y ∷ xs) x h g = by (test y) refl (λ u. any_push test xs x u g) h
  where
    by : (t : Bool) → test y ≡ t → (list_any test xs ≡ false → list_any test (xs ++ x ∷ []) ≡ false)
        → (t || list_any test xs) ≡ false → list_any test (y ∷ xs ++ x ∷ []) ≡ false
    by true q later u = cc
    by false q later u = rw q (later u)

pub name_more : (path : List ℕ) (start k d : ℕ) → start ≤ k → k < length path
    → (get_or path k d == slash) ≡ false → is_name (slice_range path start k) ≡ true →
    is_name (slice_range path start (k + 1)) ≡ true
name_more path start k d b l h pure =
    ap is_name (part_more path start k d b l)
    ∙ ap not (any_push (λ c. c == slash) (slice_range path start k) (get_or path k d)
    (not_true (list_any (λ c. c == slash) (slice_range path start k)) pure) h)
  where
    not_true : (t : Bool) → not t ≡ true → t ≡ false
    not_true true u = cc
    not_true false u = refl

pub name_none : (path : List ℕ) (k : ℕ) → is_name (slice_range path k k) ≡ true
name_none path k = ap is_name (part_none path k)

-- ---- a place so far

-- the key of a place and the part that begins there are the first k bytes
abbrev pub HangsAt : List (List ℕ) → ℕ → List ℕ → ℕ → ℕ → Type 0
HangsAt ks place path start k = IsSomeAnd (slice_get ks place) (λ key. key ++ slash ∷ slice_range path start
    k ≡ slash ∷ take k path)

pub hangs_byte : (ks : List (List ℕ)) (place : ℕ) (path : List ℕ) (start k d : ℕ) → start ≤ k → k < length path
    → HangsAt ks place path start k → HangsAt ks place path start (k + 1)
hangs_byte ks place path start k d b l h = by (slice_get ks place) h
  where
    by : (o : Option (List ℕ)) → IsSomeAnd o (λ key. key ++ slash ∷ slice_range path start k ≡ slash ∷ take k path)
        → IsSomeAnd o (λ key. key ++ slash ∷ slice_range path start (k + 1) ≡ slash ∷ take (k + 1) path)
    by None u = u
    by (Some key) u =
        ap (λ p. key ++ slash ∷ p) (part_more path start k d b l) ∙
        sym (append_assoc key (slash ∷ slice_range path start k) (get_or path k d ∷ []))
        ∙ ap (λ p. p ++ get_or path k d ∷ []) u ∙ ap (λ p. slash ∷ p) (sym (take_more path k d l))

pub hangs_slash : (ks : List (List ℕ)) (place : ℕ) (path : List ℕ) (k d : ℕ) → k < length path
    → (get_or path k d == slash) ≡ true → slice_get ks place ≡ Some (slash ∷ take k path)
    → HangsAt ks place path (k + 1) (k + 1)
hangs_slash ks place path k d l h e =
    subst (λ o. IsSomeAnd o (λ key. key ++ slash ∷ slice_range path (k + 1) (k + 1) ≡ slash ∷ take (k + 1) path))
    (sym e)
    (ap (λ p. slash ∷ take k path ++ slash ∷ p) (part_none path (k + 1))
    ∙ ap (λ c. slash ∷ take k path ++ c ∷ []) (sym (eqb-true (get_or path k d) slash h))
    ∙ ap (λ p. slash ∷ p) (sym (take_more path k d l)))
