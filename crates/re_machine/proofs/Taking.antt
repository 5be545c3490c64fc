-- The letters that take a rune.
use Rattle.std.proofs.Common.{◌≡◌, ℕ, zero, suc, ◌+◌, ◌-◌, ◌^◌, ◌<◌, ◌≤◌, ◌⊎◌, ◌==◌, ◌&&◌, ◌||◌, Bool, true, false}
use Rattle.std.proofs.Common.{List, [], ◌∷◌, ◌++◌, length, map, get_or, drop, refl, sym, ap, subst, ◌∙◌, inl, inr}
use Rattle.std.proofs.Common.{arith}
use Rattle.std.specs.Prelude.{IsTrue, ◌↔◌, bit_or, if◌then◌else◌}
use Rattle.std.proofs.lemmas.Bool.{cases_eq, cases_lt, or_cases, or_left, or_right}
use Rattle.std.proofs.lemmas.Bool.Decides.{nat_tests}
use Rattle.std.proofs.lemmas.List.{length-append}
use Rattle.re_syntax.specs.declared.re.Re.{Re}
use Rattle.re_syntax.specs.Tree.{Tree, tree, Letter, AnyLetter, OneOf, LineStart, LineEnd, Then, Either, Many, Several}
use Rattle.re_syntax.specs.Tree.{Maybe, Group}
use Rattle.re_spans.specs.Leaves.{takes}
use Rattle.re_sets.specs.Spots.{Only, only, takes_at}
use Rattle.re_sets.specs.Numbers.{letters, bits}
use Rattle.re_sets.specs.Words.{on, IsSet}
use Rattle.re_sets.proofs.Going.{both, and_true}
use Rattle.re_sets.proofs.Wording.{on_or_left, on_or_right, on_or_cases, on_zero}
use Rattle.re_machine.specs.Leaves.{leaves_of, taken_by, taken_from, taken_word}
use Rattle.re_machine.proofs.Filled.{on_pow}
use Rattle.re_machine.proofs.Dropping.{drop_at, drop_all}

-- a list has as many letters as its tree
pub leaves_count : (r : Tree) → length (leaves_of r) ≡ letters r
leaves_count (Letter c) = refl
leaves_count AnyLetter = refl
leaves_count (OneOf negated spans) = refl
leaves_count LineStart = refl
leaves_count LineEnd = refl
leaves_count (Then a b) = omega (arith, length-append (leaves_of a) (leaves_of b), leaves_count a, leaves_count b)
leaves_count (Either a b) = omega (arith, length-append (leaves_of a) (leaves_of b), leaves_count a, leaves_count b)
leaves_count (Many a) = leaves_count a
leaves_count (Several a) = leaves_count a
leaves_count (Maybe a) = leaves_count a
leaves_count (Group n a) = leaves_count a

-- ---- the letters found one after another

abbrev pub TakenFrom : List Tree → ℕ → ℕ → ℕ → ℕ → Type 0
TakenFrom xs d n found m = IsTrue (on found m) ⊎ ((n ≤ m) × IsTrue (taken_by xs d (m - n)))

taken_head : (x : Tree) (xs : List Tree) (d m n : ℕ) → m ≡ n → IsTrue (takes x d) → IsTrue (taken_by (x ∷ xs) d (m - n))
taken_head x xs d m n e t = let z : m - n ≡ zero = omega (arith, e) in
    subst (λ (k : ℕ). IsTrue (taken_by (x ∷ xs) d k)) (sym z) t

taken_tail : (x : Tree) (xs : List Tree) (d m n : ℕ) → n < m → IsTrue (taken_by xs d (m - (n + 1)))
    → IsTrue (taken_by (x ∷ xs) d (m - n))
taken_tail x xs d m n l t = let z : m - n ≡ suc (m - (n + 1)) = omega (arith, l) in
    subst (λ (k : ℕ). IsTrue (taken_by (x ∷ xs) d k)) (sym z) t

head_taken : (x : Tree) (xs : List Tree) (d m n : ℕ) → m ≡ n → IsTrue (taken_by (x ∷ xs) d (m - n)) → IsTrue (takes x d)
head_taken x xs d m n e t = let z : m - n ≡ zero = omega (arith, e) in
    subst (λ (k : ℕ). IsTrue (taken_by (x ∷ xs) d k)) z t

tail_taken : (x : Tree) (xs : List Tree) (d m n : ℕ) → n < m → IsTrue (taken_by (x ∷ xs) d (m - n))
    → IsTrue (taken_by xs d (m - (n + 1)))
tail_taken x xs d m n l t = let z : m - n ≡ suc (m - (n + 1)) = omega (arith, l) in
    subst (λ (k : ℕ). IsTrue (taken_by (x ∷ xs) d k)) z t

found_to : (found n m : ℕ) (b : Bool) → IsTrue (on (if b then bit_or found (2 ^ n) else found) m) → IsTrue (on found m)
    ⊎ ((m ≡ n) × IsTrue b)
found_to found n m true h = elim (on_or_cases found (2 ^ n) m h) [
  | inl x ↦ inl x
  | inr y ↦ inr (grind (arith, nat_tests, (on_pow n m).0 y), refl)
]
found_to found n m false h = inl h

found_had : (found n m : ℕ) (b : Bool) → IsTrue (on found m) → IsTrue (on (if b then bit_or found (2 ^ n) else found) m)
found_had found n m true h = on_or_left found (2 ^ n) m h
found_had found n m false h = h

found_now : (found n m : ℕ) (b : Bool) → m ≡ n → IsTrue b → IsTrue (on (if b then bit_or found (2 ^ n) else found) m)
found_now found n m true e h = on_or_right found (2 ^ n) m ((on_pow n m).1 (grind (arith, nat_tests, e)))
found_now found n m false e h = absurd (cc h)

taken_to : (xs : List Tree) (d n found m : ℕ) → IsTrue (on (taken_from xs d n found) m) → TakenFrom xs d n found m
taken_to [] d n found m h = inl h
taken_to (x ∷ xs) d n found m h = elim (taken_to xs d (n + 1) (if takes x d then bit_or found (2 ^ n) else found) m h) [
  | inl y ↦ elim (found_to found n m (takes x d) y) [
    | inl z ↦ inl z
    | inr z ↦ inr (omega (arith, z.0), taken_head x xs d m n z.0 z.1)
  ]
  | inr y ↦ inr (omega (arith, y.0), taken_tail x xs d m n (omega (arith, y.0)) y.1)
]

from_taken : (xs : List Tree) (d n found m : ℕ) → TakenFrom xs d n found m → IsTrue (on (taken_from xs d n found) m)
from_taken [] d n found m h = elim h [ inl y ↦ y | inr y ↦ absurd (cc (y.1)) ]
from_taken (x ∷ xs) d n found m h =
    let next : ℕ = if takes x d then bit_or found (2 ^ n) else found in
    from_taken xs d (n + 1) next m (elim h [
      | inl y ↦ inl (found_had found n m (takes x d) y)
      | inr y ↦ elim (cases_eq m n) [
        | inl e ↦ inl (found_now found n m (takes x d) e (head_taken x xs d m n e y.1))
        | inr o ↦ inr (omega (arith, o, y.0), tail_taken x xs d m n (omega (arith, o, y.0)) y.1)
      ]
    ])

-- ---- the letters of a tree

left_taken : (xs ys : List Tree) (d n : ℕ) → n < length xs → IsTrue (taken_by (xs ++ ys) d n) ↔ IsTrue (taken_by xs d n)
left_taken [] ys d n l = absurd (omega (arith, l))
left_taken (x ∷ xs) ys d zero l = (λ h. h, λ h. h)
left_taken (x ∷ xs) ys d (suc n) l = left_taken xs ys d n (omega (arith, l))

right_taken : (xs ys : List Tree) (d n : ℕ) → length xs ≤ n → IsTrue (taken_by (xs ++ ys) d n) ↔ IsTrue
    (taken_by ys d (n - length xs))
right_taken [] ys d n l = let e : n - 0 ≡ n = omega arith in subst
    (λ (z : ℕ). IsTrue (taken_by ys d n) ↔ IsTrue (taken_by ys d z)) (sym e) (λ h. h, λ h. h)
right_taken (x ∷ xs) ys d zero l = absurd (omega (arith, l))
right_taken (x ∷ xs) ys d (suc n) l =
    let e : suc n - length (x ∷ xs) ≡ n - length xs = omega arith in
    subst (λ (z : ℕ). IsTrue (taken_by (xs ++ ys) d n) ↔ IsTrue (taken_by ys d z)) (sym e)
    (right_taken xs ys d n (omega (arith, l)))

within : (xs : List Tree) (d n : ℕ) → IsTrue (taken_by xs d n) → n < length xs
within [] d n h = absurd (cc h)
within (x ∷ xs) d zero h = omega arith
within (x ∷ xs) d (suc n) h = omega (arith, within xs d n h)

abbrev pub TakesAt : Tree → ℕ → ℕ → ℕ → Type 0
TakesAt r base d n = (base ≤ n) × IsTrue (taken_by (leaves_of r) d (n - base))

one_taken : (x : Tree) (base d n : ℕ) (s : Bool) → s ≡ takes x d → IsTrue ((n == base) && s) ↔
    ((base ≤ n) × IsTrue (taken_by (x ∷ []) d (n - base)))
one_taken x base d n s e = (
  λ h.
      let y = both (n == base) s h in
      let z : n ≡ base = grind (arith, nat_tests, y.0) in
      (omega (arith, z), taken_head x [] d n base z (subst IsTrue e y.1)),
  λ h. elim (cases_eq n base) [
    | inl z ↦ and_true (n == base) s (grind (arith, nat_tests, z))
        (subst IsTrue (sym e) (head_taken x [] d n base z h.1))
    | inr o ↦ absurd (let l : base < n = omega (arith, o, h.0) in let t = tail_taken x [] d n base l h.1 in cc t)
  ],
)

joined_taken : (a b : Tree) (base d n : ℕ) → TakesAt a base d n ⊎ TakesAt b (base + letters a) d n → (base ≤ n)
    × IsTrue (taken_by (leaves_of a ++ leaves_of b) d (n - base))
joined_taken a b base d n h = elim h [
  | inl x ↦ (x.0, (left_taken (leaves_of a) (leaves_of b) d (n - base) (within (leaves_of a) d (n - base) x.1)).1 x.1)
  | inr y ↦
      let c = leaves_count a in
      let e : n - base - length (leaves_of a) ≡ n - (base + letters a) = omega (arith, c) in (
        omega (arith, y.0),
        (right_taken (leaves_of a) (leaves_of b) d (n - base) (omega (arith, y.0, c))).1
            (subst (λ (z : ℕ). IsTrue (taken_by (leaves_of b) d z)) (sym e) y.1),
      )
]

taken_joined : (a b : Tree) (base d n : ℕ) → (base ≤ n) × IsTrue (taken_by (leaves_of a ++ leaves_of b) d (n - base))
    → TakesAt a base d n ⊎ TakesAt b (base + letters a) d n
taken_joined a b base d n h = elim (cases_lt (n - base) (length (leaves_of a))) [
  | inl l ↦ inl (h.0, (left_taken (leaves_of a) (leaves_of b) d (n - base) l).0 h.1)
  | inr g ↦
      let c = leaves_count a in
      let e : n - base - length (leaves_of a) ≡ n - (base + letters a) = omega (arith, c) in
      inr (
        omega (arith, h.0, g, c),
        subst (λ (z : ℕ). IsTrue (taken_by (leaves_of b) d z)) e
            ((right_taken (leaves_of a) (leaves_of b) d (n - base) g).0 h.1),
      )
]

pair_takes : (a b : Tree) (base d n : ℕ) (x y : Bool) → IsTrue x ↔ TakesAt a base d n
    → IsTrue y ↔ TakesAt b (base + letters a) d n → IsTrue (x || y) ↔
    ((base ≤ n) × IsTrue (taken_by (leaves_of a ++ leaves_of b) d (n - base)))
pair_takes a b base d n x y p q = (
  λ h. joined_taken a b base d n (elim (or_cases x y h) [ inl u ↦ inl (p.0 u) | inr u ↦ inr (q.0 u) ]),
  λ h. elim (taken_joined a b base d n h) [ inl u ↦ or_left x y (p.1 u) | inr u ↦ or_right x y (q.1 u) ],
)

takes_is : (r : Tree) (base d n : ℕ) → IsTrue (bits r base (takes_at r d) n) ↔ TakesAt r base d n
takes_is (Letter c) base d n = one_taken (Letter c) base d n (only (takes (Letter c) d) Only) refl
takes_is AnyLetter base d n = one_taken AnyLetter base d n (only (takes AnyLetter d) Only) refl
takes_is (OneOf negated spans) base d n = one_taken (OneOf negated spans) base d n
    (only (takes (OneOf negated spans) d) Only) refl
takes_is LineStart base d n = (λ h. absurd (cc h), λ h. absurd (cc (h.1)))
takes_is LineEnd base d n = (λ h. absurd (cc h), λ h. absurd (cc (h.1)))
takes_is (Then a b) base d n = pair_takes a b base d n (bits a base (takes_at a d) n)
    (bits b (base + letters a) (takes_at b d) n) (takes_is a base d n) (takes_is b (base + letters a) d n)
takes_is (Either a b) base d n = pair_takes a b base d n (bits a base (takes_at a d) n)
    (bits b (base + letters a) (takes_at b d) n) (takes_is a base d n) (takes_is b (base + letters a) d n)
takes_is (Many a) base d n = takes_is a base d n
takes_is (Several a) base d n = takes_is a base d n
takes_is (Maybe a) base d n = takes_is a base d n
takes_is (Group k a) base d n = takes_is a base d n

-- the letters of a tree that take a rune are those of its list that do
pub taken_is : (r : Tree) (leaves : List Tree) (d : ℕ) → leaves ≡ leaves_of r
    → IsSet r 0 (takes_at r d) (taken_word leaves d)
taken_is r leaves d e n =
    let same : n - 0 ≡ n = omega arith in
    subst (λ (xs : List Tree). IsTrue (on (taken_from xs d 0 0) n) ↔ IsTrue (bits r 0 (takes_at r d) n)) (sym e) (
      λ h. elim (taken_to (leaves_of r) d 0 0 n h) [
        | inl x ↦ absurd (on_zero n x)
        | inr y ↦ (takes_is r 0 d n).1 y
      ],
      λ h. from_taken (leaves_of r) d 0 0 n (inr ((takes_is r 0 d n).0 h)),
    )

-- one letter more is looked at
pub taken_more : (xs : List Re) (d n found next : ℕ) (x : Re) → n < length xs → x ≡ get_or xs n x
    → next ≡ (if takes (tree x) d then bit_or found (2 ^ n) else found)
    → taken_from (map tree (drop (n + 1) xs)) d (n + 1) next ≡ taken_from (map tree (drop n xs)) d n found
taken_more xs d n found next x l e f =
    let k : suc n ≡ n + 1 = omega arith in
    let at : drop n xs ≡ x ∷ drop (n + 1) xs = drop_at xs n x l ∙ ap (λ (z : Re). z ∷ drop (suc n) xs) (sym e)
    ∙ ap (λ (z : ℕ). x ∷ drop z xs) k in
    rw (at, f) refl

pub taken_all : (xs : List Re) (d n found : ℕ) → length xs ≤ n → taken_from (map tree (drop n xs)) d n found ≡ found
taken_all xs d n found l = rw (drop_all xs n l) refl
