-- The numbers of letters.
use Rattle.std.proofs.Common.{◌≡◌, ℕ, zero, suc, ◌+◌, ◌<◌, ◌≤◌, ◌⊎◌, ◌==◌, ◌&&◌, ◌||◌, Bool, true, false, refl, sym}
use Rattle.std.proofs.Common.{subst, inl, inr, arith}
use Rattle.std.specs.Prelude.{IsTrue, ◌↔◌}
use Rattle.std.proofs.lemmas.Bool.{or_cases, or_left, or_right, cases_lt}
use Rattle.std.proofs.lemmas.Bool.Decides.{nat_tests}
use Rattle.re_syntax.specs.Tree.{Tree, Letter, AnyLetter, OneOf, LineStart, LineEnd, Then, Either, Many, Several, Maybe}
use Rattle.re_syntax.specs.Tree.{Group}
use Rattle.re_syntax.specs.Match.{Repeats, Joins}
use Rattle.re_sets.specs.Readings.{Reading, Spans, Null}
use Rattle.re_sets.specs.Spots.{Spot, Only, InLeft, InRight, only, sides, takes_at, null, first, last, follow, Only'}
use Rattle.re_sets.specs.Spots.{After, Enters, Goes}
use Rattle.re_sets.specs.Numbers.{letters, is_letter, number, bits, rows, any_below, step, enter, is_end, Leads, Came}
use Rattle.re_sets.specs.Numbers.{begun, gone, run}
use Rattle.re_sets.proofs.Going.{both, and_true}
use Rattle.re_sets.proofs.Paths.{begins, goes_on}

-- a number of the tree
abbrev pub InTree : Tree → ℕ → ℕ → Type 0
InTree r base n = (base ≤ n) × (n < base + letters r)

one_in : (base n : ℕ) (b : Bool) → IsTrue ((n == base) && b) → (base ≤ n) × (n < base + 1)
one_in base n b h = let x = both (n == base) b h in (grind (arith, nat_tests, x.0), grind (arith, nat_tests, x.0))

pub bits_in : (r : Tree) (base : ℕ) (s : Spot → Bool) (n : ℕ) → IsTrue (bits r base s n) → InTree r base n
bits_in (Letter c) base s n h = one_in base n (s Only) h
bits_in AnyLetter base s n h = one_in base n (s Only) h
bits_in (OneOf negated spans) base s n h = one_in base n (s Only) h
bits_in LineStart base s n h = absurd (cc (h))
bits_in LineEnd base s n h = absurd (cc (h))
bits_in (Then a b) base s n h = elim (or_cases (bits a base (λ p. s (InLeft p)) n)
    (bits b (base + letters a) (λ p. s (InRight p)) n) h) [
      | inl x ↦ let i = bits_in a base (λ p. s (InLeft p)) n x in (i.0, omega (arith, i.1))
      | inr y ↦ let i = bits_in b (base + letters a) (λ p. s (InRight p)) n y in (omega (arith, i.0), omega (arith, i.1))
    ]
bits_in (Either a b) base s n h = elim (or_cases (bits a base (λ p. s (InLeft p)) n)
    (bits b (base + letters a) (λ p. s (InRight p)) n) h) [
      | inl x ↦ let i = bits_in a base (λ p. s (InLeft p)) n x in (i.0, omega (arith, i.1))
      | inr y ↦ let i = bits_in b (base + letters a) (λ p. s (InRight p)) n y in (omega (arith, i.0), omega (arith, i.1))
    ]
bits_in (Many a) base s n h = bits_in a base s n h
bits_in (Several a) base s n h = bits_in a base s n h
bits_in (Maybe a) base s n h = bits_in a base s n h
bits_in (Group m a) base s n h = bits_in a base s n h

pub number_in : (r : Tree) (base : ℕ) (p : Spot) → IsTrue (is_letter r p) → InTree r base (number r base p)
number_in (Letter c) base p h = (omega arith, omega arith)
number_in AnyLetter base p h = (omega arith, omega arith)
number_in (OneOf negated spans) base p h = (omega arith, omega arith)
number_in LineStart base p h = absurd (cc (h))
number_in LineEnd base p h = absurd (cc (h))
number_in (Then a b) base Only h = absurd (cc (h))
number_in (Then a b) base (InLeft p) h = let i = number_in a base p h in (i.0, omega (arith, i.1))
number_in (Then a b) base (InRight p) h = let i = number_in b (base + letters a) p h in
    (omega (arith, i.0), omega (arith, i.1))
number_in (Either a b) base Only h = absurd (cc (h))
number_in (Either a b) base (InLeft p) h = let i = number_in a base p h in (i.0, omega (arith, i.1))
number_in (Either a b) base (InRight p) h = let i = number_in b (base + letters a) p h in
    (omega (arith, i.0), omega (arith, i.1))
number_in (Many a) base p h = number_in a base p h
number_in (Several a) base p h = number_in a base p h
number_in (Maybe a) base p h = number_in a base p h
number_in (Group m a) base p h = number_in a base p h

-- the letter of a bit
pub letter_of : (r : Tree) (base : ℕ) (s : Spot → Bool) (n : ℕ) → IsTrue (bits r base s n) → (p : Spot)
    × IsTrue (is_letter r p) × (number r base p ≡ n) × IsTrue (s p)
letter_of (Letter c) base s n h = let x = both (n == base) (s Only) h in
    (Only, refl, grind (arith, nat_tests, x.0), x.1)
letter_of AnyLetter base s n h = let x = both (n == base) (s Only) h in (Only, refl, grind (arith, nat_tests, x.0), x.1)
letter_of (OneOf negated spans) base s n h = let x = both (n == base) (s Only) h in
    (Only, refl, grind (arith, nat_tests, x.0), x.1)
letter_of LineStart base s n h = absurd (cc (h))
letter_of LineEnd base s n h = absurd (cc (h))
letter_of (Then a b) base s n h = elim (or_cases (bits a base (λ p. s (InLeft p)) n)
    (bits b (base + letters a) (λ p. s (InRight p)) n) h) [
      | inl x ↦ let q = letter_of a base (λ p. s (InLeft p)) n x in (InLeft q.0, q.1, q.2, q.3)
      | inr y ↦ let q = letter_of b (base + letters a) (λ p. s (InRight p)) n y in (InRight q.0, q.1, q.2, q.3)
    ]
letter_of (Either a b) base s n h = elim (or_cases (bits a base (λ p. s (InLeft p)) n)
    (bits b (base + letters a) (λ p. s (InRight p)) n) h) [
      | inl x ↦ let q = letter_of a base (λ p. s (InLeft p)) n x in (InLeft q.0, q.1, q.2, q.3)
      | inr y ↦ let q = letter_of b (base + letters a) (λ p. s (InRight p)) n y in (InRight q.0, q.1, q.2, q.3)
    ]
letter_of (Many a) base s n h = letter_of a base s n h
letter_of (Several a) base s n h = letter_of a base s n h
letter_of (Maybe a) base s n h = letter_of a base s n h
letter_of (Group m a) base s n h = letter_of a base s n h

-- the bit of a letter
one_at : (base : ℕ) (s : Spot → Bool) (p : Spot) → IsTrue (only true p) → IsTrue (s p)
    → IsTrue ((base == base) && s Only)
one_at base s Only h t = and_true (base == base) (s Only) (grind (arith, nat_tests)) t
one_at base s (InLeft p) h t = absurd (cc (h))
one_at base s (InRight p) h t = absurd (cc (h))

pub bit_of : (r : Tree) (base : ℕ) (s : Spot → Bool) (p : Spot) → IsTrue (is_letter r p) → IsTrue (s p)
    → IsTrue (bits r base s (number r base p))
bit_of (Letter c) base s p h t = one_at base s p h t
bit_of AnyLetter base s p h t = one_at base s p h t
bit_of (OneOf negated spans) base s p h t = one_at base s p h t
bit_of LineStart base s p h t = absurd (cc (h))
bit_of LineEnd base s p h t = absurd (cc (h))
bit_of (Then a b) base s Only h t = absurd (cc (h))
bit_of (Then a b) base s (InLeft p) h t =
    or_left (bits a base (λ q. s (InLeft q)) (number a base p)) (bits b (base + letters a) (λ q. s (InRight q))
    (number a base p)) (bit_of a base (λ q. s (InLeft q)) p h t)
bit_of (Then a b) base s (InRight p) h t =
    or_right (bits a base (λ q. s (InLeft q)) (number b (base + letters a) p))
    (bits b (base + letters a) (λ q. s (InRight q)) (number b (base + letters a) p))
    (bit_of b (base + letters a) (λ q. s (InRight q)) p h t)
bit_of (Either a b) base s Only h t = absurd (cc (h))
bit_of (Either a b) base s (InLeft p) h t =
    or_left (bits a base (λ q. s (InLeft q)) (number a base p)) (bits b (base + letters a) (λ q. s (InRight q))
    (number a base p)) (bit_of a base (λ q. s (InLeft q)) p h t)
bit_of (Either a b) base s (InRight p) h t =
    or_right (bits a base (λ q. s (InLeft q)) (number b (base + letters a) p))
    (bits b (base + letters a) (λ q. s (InRight q)) (number b (base + letters a) p))
    (bit_of b (base + letters a) (λ q. s (InRight q)) p h t)
bit_of (Many a) base s p h t = bit_of a base s p h t
bit_of (Several a) base s p h t = bit_of a base s p h t
bit_of (Maybe a) base s p h t = bit_of a base s p h t
bit_of (Group m a) base s p h t = bit_of a base s p h t

-- no two letters have one number
abbrev pub OneNumber : Tree → ℕ → Type 0
OneNumber r base = (p q : Spot) → IsTrue (is_letter r p) → IsTrue (is_letter r q) → number r base p ≡ number r base q
    → p ≡ q

only_one : (p q : Spot) → IsTrue (only true p) → IsTrue (only true q) → p ≡ q
only_one Only Only h g = refl
only_one (InLeft p) q h g = absurd (cc (h))
only_one (InRight p) q h g = absurd (cc (h))
only_one p (InLeft q) h g = absurd (cc (g))
only_one p (InRight q) h g = absurd (cc (g))

one_side : (a b : Tree) (base : ℕ) → OneNumber a base → OneNumber b (base + letters a) → OneNumber (Then a b) base
one_side a b base x y Only q h g e = absurd (cc (h))
one_side a b base x y (InLeft p) Only h g e = absurd (cc (g))
one_side a b base x y (InLeft p) (InLeft q) h g e = let s = x p q h g e in
    subst (λ (z : Spot). InLeft p ≡ InLeft z) s refl
one_side a b base x y (InLeft p) (InRight q) h g e =
    absurd (omega (arith, e, (number_in a base p h).1, (number_in b (base + letters a) q g).0))
one_side a b base x y (InRight p) Only h g e = absurd (cc (g))
one_side a b base x y (InRight p) (InLeft q) h g e =
    absurd (omega (arith, e, (number_in a base q g).1, (number_in b (base + letters a) p h).0))
one_side a b base x y (InRight p) (InRight q) h g e = let s = y p q h g e in
    subst (λ (z : Spot). InRight p ≡ InRight z) s refl

pub one_number : (r : Tree) (base : ℕ) → OneNumber r base
one_number (Letter c) base p q h g e = only_one p q h g
one_number AnyLetter base p q h g e = only_one p q h g
one_number (OneOf negated spans) base p q h g e = only_one p q h g
one_number LineStart base p q h g e = absurd (cc (h))
one_number LineEnd base p q h g e = absurd (cc (h))
one_number (Then a b) base p q h g e = one_side a b base (one_number a base) (one_number b (base + letters a)) p q h g e
one_number (Either a b) base p q h g e = one_side a b base (one_number a base) (one_number b (base + letters a)) p q h g
    e
one_number (Many a) base p q h g e = one_number a base p q h g e
one_number (Several a) base p q h g e = one_number a base p q h g e
one_number (Maybe a) base p q h g e = one_number a base p q h g e
one_number (Group m a) base p q h g e = one_number a base p q h g e

pub bit_tells : (r : Tree) (base : ℕ) (s : Spot → Bool) (p : Spot) → IsTrue (is_letter r p)
    → IsTrue (bits r base s (number r base p)) → IsTrue (s p)
bit_tells r base s p h t =
    let q = letter_of r base s (number r base p) t in
    subst (λ (z : Spot). IsTrue (s z)) (one_number r base q.0 p q.1 h q.2) q.3

only_letter : (p : Spot) (A : Type 0) → Only' A p → IsTrue (only true p)
only_letter Only A x = refl
only_letter (InLeft p) A x = absurd x
only_letter (InRight p) A x = absurd x

pub after_letter : (r : Tree) (w : Reading) (p : Spot) (k j : ℕ) → After r w p k j → IsTrue (is_letter r p)
after_letter (Letter c) w p k j x = only_letter p (j ≡ k) x
after_letter AnyLetter w p k j x = only_letter p (j ≡ k) x
after_letter (OneOf negated spans) w p k j x = only_letter p (j ≡ k) x
after_letter LineStart w p k j x = absurd x
after_letter LineEnd w p k j x = absurd x
after_letter (Then a b) w Only k j x = absurd x
after_letter (Then a b) w (InLeft p) k j x = after_letter a w p k x.0 x.1
after_letter (Then a b) w (InRight p) k j x = after_letter b w p k j x
after_letter (Either a b) w Only k j x = absurd x
after_letter (Either a b) w (InLeft p) k j x = after_letter a w p k j x
after_letter (Either a b) w (InRight p) k j x = after_letter b w p k j x
after_letter (Many a) w p k j x = after_letter a w p k x.0 x.1
after_letter (Several a) w p k j x = after_letter a w p k x.0 x.1
after_letter (Maybe a) w p k j x = after_letter a w p k j x
after_letter (Group m a) w p k j x = after_letter a w p k j x

-- ---- steps

pub below_to : (f : ℕ → Bool) (n m : ℕ) → m < n → IsTrue (f m) → IsTrue (any_below f n)
below_to f zero m l t = absurd (omega (arith, l))
below_to f (suc n) m l t = elim (cases_lt m n) [
  | inl x ↦ or_right (f n) (any_below f n) (below_to f n m x t)
  | inr y ↦ or_left (f n) (any_below f n) (let e : m ≡ n = omega (arith, l, y) in subst (λ (z : ℕ). IsTrue (f z)) e t)
]

pub below_from : (f : ℕ → Bool) (n : ℕ) → IsTrue (any_below f n) → (m : ℕ) × (m < n) × IsTrue (f m)
below_from f zero h = absurd (cc (h))
below_from f (suc n) h = elim (or_cases (f n) (any_below f n) h) [
  | inl x ↦ (n, omega arith, x)
  | inr y ↦ let q = below_from f n y in (q.0, omega (arith, q.1), q.2)
]

-- a set that is tested against another
pub meets_to : (r : Tree) (s : ℕ → Bool) (f : Spot → Bool) (p : Spot) → IsTrue (is_letter r p)
    → IsTrue (s (number r 0 p)) → IsTrue (f p) → IsTrue (any_below (λ m. s m && bits r 0 f m) (letters r))
meets_to r s f p h x t =
    below_to (λ m. s m && bits r 0 f m) (letters r) (number r 0 p) (omega (arith, (number_in r 0 p h).1))
    (and_true (s (number r 0 p)) (bits r 0 f (number r 0 p)) x (bit_of r 0 f p h t))

pub meets_from : (r : Tree) (s : ℕ → Bool) (f : Spot → Bool) → IsTrue (any_below (λ m. s m && bits r 0 f m) (letters r))
    → (p : Spot) × IsTrue (is_letter r p) × IsTrue (s (number r 0 p)) × IsTrue (f p)
meets_from r s f h =
    let q = below_from (λ m. s m && bits r 0 f m) (letters r) h in
    let x = both (s q.0) (bits r 0 f q.0) q.2 in
    let p = letter_of r 0 f q.0 x.1 in
    (p.0, p.1, subst (λ (z : ℕ). IsTrue (s z)) (sym p.2) x.0, p.3)
