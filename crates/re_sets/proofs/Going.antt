-- How a match of a part goes on, and how one of the whole does then.
use Rattle.std.proofs.Common.{◌≡◌, ℕ, zero, suc, ◌+◌, ◌<◌, ◌≤◌, ◌⊎◌, ◌&&◌, ◌||◌, Bool, true, false, refl, sym, subst}
use Rattle.std.proofs.Common.{inl, inr, arith}
use Rattle.std.specs.Prelude.{IsTrue, ◌↔◌}
use Rattle.std.proofs.lemmas.Bool.{or_cases, or_left, or_right}
use Rattle.re_syntax.specs.Tree.{Tree, Letter, AnyLetter, OneOf, LineStart, LineEnd, Then, Either, Many, Several, Maybe}
use Rattle.re_syntax.specs.Tree.{Group}
use Rattle.re_syntax.specs.Match.{Repeats, Pieces, Joins}
use Rattle.re_sets.specs.Readings.{Reading, Spans, Rune, Null}
use Rattle.re_sets.specs.Spots.{Spot, Only, InLeft, InRight, only, sides, none, takes_at, null, first, last, follow}
use Rattle.re_sets.specs.Spots.{Only', Sides, After, Enters, Goes}

pub both : (a b : Bool) → IsTrue (a && b) → IsTrue a × IsTrue b
both true b e = (refl, e)
both false b e = absurd cc

pub and_true : (a b : Bool) → IsTrue a → IsTrue b → IsTrue (a && b)
and_true true b e f = f
and_true false b e f = absurd cc

-- the first parts of a tree tell how spans of it begin
abbrev pub Begin : Tree → Reading → ℕ → ℕ → Type 0
Begin r w i j = Spans r w i j ↔ Goes r w (null r (w.here i)) (first r (w.here i)) i j

-- no match ends before it begins
pub Pieces-on : (R : ℕ → ℕ → Type 0) → ((i j : ℕ) → R i j → i ≤ j) → (n i j : ℕ) → Pieces R n i j → i ≤ j
Pieces-on R on zero i j p = omega (arith, p)
Pieces-on R on (suc n) i j p = omega (arith, p.1, Pieces-on R on n p.0 j p.3)

pub Spans-on : (r : Tree) (w : Reading) (i j : ℕ) → Spans r w i j → i ≤ j
Spans-on (Letter c) w i j m = omega (arith, m.0)
Spans-on AnyLetter w i j m = omega (arith, m.0)
Spans-on (OneOf negated spans) w i j m = omega (arith, m.0)
Spans-on LineStart w i j m = omega (arith, m.0)
Spans-on LineEnd w i j m = omega (arith, m.0)
Spans-on (Then a b) w i j m = omega (arith, Spans-on a w i m.0 m.1, Spans-on b w m.0 j m.2)
Spans-on (Either a b) w i j m = elim m [ inl x ↦ Spans-on a w i j x | inr y ↦ Spans-on b w i j y ]
Spans-on (Many a) w i j m = Pieces-on (Spans a w) (Spans-on a w) m.0 i j m.1
Spans-on (Several a) w i j m = omega (
  arith,
  Spans-on a w i m.0 m.1,
  Pieces-on (Spans a w) (Spans-on a w) m.2.0 m.0 j m.2.1,
)
Spans-on (Maybe a) w i j m = elim m [ inl x ↦ Spans-on a w i j x | inr e ↦ omega (arith, e) ]
Spans-on (Group n a) w i j m = Spans-on a w i j m

only_on : (p : Spot) (k j : ℕ) → Only' (j ≡ k) p → k ≤ j
only_on Only k j x = omega (arith, x)
only_on (InLeft p) k j x = absurd x
only_on (InRight p) k j x = absurd x

pub After-on : (r : Tree) (w : Reading) (p : Spot) (k j : ℕ) → After r w p k j → k ≤ j
After-on (Letter c) w p k j x = only_on p k j x
After-on AnyLetter w p k j x = only_on p k j x
After-on (OneOf negated spans) w p k j x = only_on p k j x
After-on LineStart w p k j x = absurd x
After-on LineEnd w p k j x = absurd x
After-on (Then a b) w Only k j x = absurd x
After-on (Then a b) w (InLeft p) k j x = omega (arith, After-on a w p k x.0 x.1, Spans-on b w x.0 j x.2)
After-on (Then a b) w (InRight p) k j x = After-on b w p k j x
After-on (Either a b) w Only k j x = absurd x
After-on (Either a b) w (InLeft p) k j x = After-on a w p k j x
After-on (Either a b) w (InRight p) k j x = After-on b w p k j x
After-on (Many a) w p k j x = omega (
  arith,
  After-on a w p k x.0 x.1,
  Pieces-on (Spans a w) (Spans-on a w) x.2.0 x.0 j x.2.1,
)
After-on (Several a) w p k j x = omega (
  arith,
  After-on a w p k x.0 x.1,
  Pieces-on (Spans a w) (Spans-on a w) x.2.0 x.0 j x.2.1,
)
After-on (Maybe a) w p k j x = After-on a w p k j x
After-on (Group n a) w p k j x = After-on a w p k j x

-- ---- one letter

pub rune_to : (f : ℕ → Bool) (w : Reading) (i j : ℕ) → Rune f w i j → Null false i j
    ⊎ ((q : Spot) × IsTrue (only true q) × (i < w.count) × IsTrue (only (f (w.rune i)) q) × Only' (j ≡ i + 1) q)
rune_to f w i j s = inr (Only, refl, s.1, s.2, s.0)

rune_enters : (f : ℕ → Bool) (w : Reading) (i j : ℕ) (q : Spot) → i < w.count → IsTrue (only (f (w.rune i)) q)
    → Only' (j ≡ i + 1) q → Rune f w i j
rune_enters f w i j Only l t x = (x, l, t)
rune_enters f w i j (InLeft q) l t x = absurd x
rune_enters f w i j (InRight q) l t x = absurd x

pub rune_from : (f : ℕ → Bool) (w : Reading) (i j : ℕ) → Null false i j
    ⊎ ((q : Spot) × IsTrue (only true q) × (i < w.count) × IsTrue (only (f (w.rune i)) q) × Only' (j ≡ i + 1) q)
    → Rune f w i j
rune_from f w i j g = elim g [ inl z ↦ absurd (cc (z.1)) | inr e ↦ rune_enters f w i j e.0 e.2 e.3 e.4 ]

-- after the one letter
pub single_to : (p : Spot) (k j : ℕ) → Only' (j ≡ k) p → Null (only true p) k j
single_to Only k j x = (x, refl)
single_to (InLeft p) k j x = absurd x
single_to (InRight p) k j x = absurd x

pub single_from : (p : Spot) (k j : ℕ) → Null (only true p) k j → Only' (j ≡ k) p
single_from Only k j z = z.0
single_from (InLeft p) k j z = absurd (cc (z.1))
single_from (InRight p) k j z = absurd (cc (z.1))

-- ---- one part after the other

module _ (a b : Tree) (w : Reading) (n : Bool) (E : Spot → Bool) (k j : ℕ) (at_k : Begin b w k j) where
  abbrev pub ThenGoes : Type 0
  ThenGoes = Goes (Then a b) w (n && null b (w.here k)) (sides E (λ s. n && first b (w.here k) s)) k j

  pub then_to : (m : ℕ) → Goes a w n E k m → Spans b w m j → ThenGoes
  then_to m g s = elim g [
    | inl z ↦ elim (at_k.0 (subst (λ (x : ℕ). Spans b w x j) z.0 s)) [
      | inl y ↦ inl (y.0, and_true n (null b (w.here k)) z.1 y.1)
      | inr e ↦ inr (InRight e.0, and_true n (first b (w.here k) e.0) z.1 e.1, e.2, e.3, e.4)
    ]
    | inr e ↦ inr (InLeft e.0, e.1, e.2, e.3, (m, e.4, s))
  ]

  then_enters : (q : Spot) → IsTrue (sides E (λ s. n && first b (w.here k) s) q) → k < w.count
      → IsTrue (takes_at (Then a b) (w.rune k) q) → After (Then a b) w q (k + 1) j → (m : ℕ) × Goes a w n E k m
      × Spans b w m j
  then_enters Only e l t x = absurd x
  then_enters (InLeft q) e l t x = (x.0, inr (q, e, l, t, x.1), x.2)
  then_enters (InRight q) e l t x =
      let n = both n (first b (w.here k) q) e in (k, inl (refl, n.0), at_k.1 (inr (q, n.1, l, t, x)))

  pub then_from : ThenGoes → (m : ℕ) × Goes a w n E k m × Spans b w m j
  then_from g = elim g [
    | inl z ↦ let y = both n (null b (w.here k)) z.1 in (k, inl (refl, y.0), at_k.1 (inl (z.0, y.1)))
    | inr e ↦ then_enters e.0 e.1 e.2 e.3 e.4
  ]

-- ---- in one of two parts

module _ (a b : Tree) (w : Reading) (n : Bool) (E : Spot → Bool) (k j : ℕ) where
  pub later_to : Goes b w n E k j → Goes (Then a b) w n (sides none E) k j
  later_to g = elim g [ inl z ↦ inl z | inr e ↦ inr (InRight e.0, e.1, e.2, e.3, e.4) ]

  later_enters : (q : Spot) → IsTrue (sides none E q) → k < w.count → IsTrue (takes_at (Then a b) (w.rune k) q)
      → After (Then a b) w q (k + 1) j → Goes b w n E k j
  later_enters Only e l t x = absurd x
  later_enters (InLeft q) e l t x = absurd cc
  later_enters (InRight q) e l t x = inr (q, e, l, t, x)

  pub later_from : Goes (Then a b) w n (sides none E) k j → Goes b w n E k j
  later_from g = elim g [ inl z ↦ inl z | inr e ↦ later_enters e.0 e.1 e.2 e.3 e.4 ]

module _ (a b : Tree) (w : Reading) (n m : Bool) (E F : Spot → Bool) (k j : ℕ) where
  pub either_to : Goes a w n E k j ⊎ Goes b w m F k j → Goes (Either a b) w (n || m) (sides E F) k j
  either_to h = elim h [
    | inl g ↦ elim g [ inl z ↦ inl (z.0, or_left n m z.1) | inr e ↦ inr (InLeft e.0, e.1, e.2, e.3, e.4) ]
    | inr g ↦ elim g [ inl z ↦ inl (z.0, or_right n m z.1) | inr e ↦ inr (InRight e.0, e.1, e.2, e.3, e.4) ]
  ]

  either_enters : (q : Spot) → IsTrue (sides E F q) → k < w.count → IsTrue (takes_at (Either a b) (w.rune k) q)
      → After (Either a b) w q (k + 1) j → Goes a w n E k j ⊎ Goes b w m F k j
  either_enters Only e l t x = absurd x
  either_enters (InLeft q) e l t x = inl (inr (q, e, l, t, x))
  either_enters (InRight q) e l t x = inr (inr (q, e, l, t, x))

  pub either_from : Goes (Either a b) w (n || m) (sides E F) k j → Goes a w n E k j ⊎ Goes b w m F k j
  either_from g = elim g [
    | inl z ↦ elim (or_cases n m z.1) [ inl x ↦ inl (inl (z.0, x)) | inr y ↦ inr (inl (z.0, y)) ]
    | inr e ↦ either_enters e.0 e.1 e.2 e.3 e.4
  ]

module _ (a b : Tree) (w : Reading) (n : Bool) (E : Spot → Bool) (k j : ℕ) where
  pub left_to : Goes a w n E k j → Goes (Either a b) w n (sides E none) k j
  left_to g = elim g [ inl z ↦ inl z | inr e ↦ inr (InLeft e.0, e.1, e.2, e.3, e.4) ]

  left_enters : (q : Spot) → IsTrue (sides E none q) → k < w.count → IsTrue (takes_at (Either a b) (w.rune k) q)
      → After (Either a b) w q (k + 1) j → Goes a w n E k j
  left_enters Only e l t x = absurd x
  left_enters (InLeft q) e l t x = inr (q, e, l, t, x)
  left_enters (InRight q) e l t x = absurd cc

  pub left_from : Goes (Either a b) w n (sides E none) k j → Goes a w n E k j
  left_from g = elim g [ inl z ↦ inl z | inr e ↦ left_enters e.0 e.1 e.2 e.3 e.4 ]

  pub right_to : Goes b w n E k j → Goes (Either a b) w n (sides none E) k j
  right_to g = elim g [ inl z ↦ inl z | inr e ↦ inr (InRight e.0, e.1, e.2, e.3, e.4) ]

  right_enters : (q : Spot) → IsTrue (sides none E q) → k < w.count → IsTrue (takes_at (Either a b) (w.rune k) q)
      → After (Either a b) w q (k + 1) j → Goes b w n E k j
  right_enters Only e l t x = absurd x
  right_enters (InLeft q) e l t x = absurd cc
  right_enters (InRight q) e l t x = inr (q, e, l, t, x)

  pub right_from : Goes (Either a b) w n (sides none E) k j → Goes b w n E k j
  right_from g = elim g [ inl z ↦ inl z | inr e ↦ right_enters e.0 e.1 e.2 e.3 e.4 ]

-- ---- a part again and again

module _ (a : Tree) (w : Reading) (begin : (i j : ℕ) → Begin a w i j) (k j : ℕ) where
  abbrev pub ManyGoes : Type 0
  ManyGoes = Goes (Many a) w true (first a (w.here k)) k j

  pieces_to : (n : ℕ) → Pieces (Spans a w) n k j → ManyGoes
  pieces_to zero e = inl (e, refl)
  pieces_to (suc n) p = elim ((begin k p.0).0 p.2) [
    | inl z ↦ absurd (omega (arith, z.0, p.1))
    | inr e ↦ inr (e.0, e.1, e.2, e.3, (p.0, e.4, (n, p.3)))
  ]

  pub repeats_to : Repeats (Spans a w) k j → ManyGoes
  repeats_to r = pieces_to r.0 r.1

  pub repeats_from : ManyGoes → Repeats (Spans a w) k j
  repeats_from g = elim g [
    | inl z ↦ (zero, z.0)
    | inr e ↦
        let x = e.4 in (
          suc x.2.0,
          (
            x.0,
            omega (arith, After-on a w e.0 (k + 1) x.0 x.1),
            (begin k x.0).1 (inr (e.0, e.1, e.2, e.3, x.1)),
            x.2.1,
          ),
        )
  ]

module _ (a : Tree) (w : Reading) (begin : (i j : ℕ) → Begin a w i j) (n : Bool) (E : Spot → Bool) (k j : ℕ) where
  abbrev pub AgainGoes : Type 0
  AgainGoes = Goes (Many a) w n (λ q. E q || (n && first a (w.here k) q)) k j

  pub again_to : (m : ℕ) → Goes a w n E k m → Repeats (Spans a w) m j → AgainGoes
  again_to m g r = elim g [
    | inl z ↦ elim (repeats_to a w begin k j (subst (λ (x : ℕ). Repeats (Spans a w) x j) z.0 r)) [
      | inl y ↦ inl (y.0, z.1)
      | inr e ↦ inr (
        e.0,
        or_right (E e.0) (n && first a (w.here k) e.0) (and_true n (first a (w.here k) e.0) z.1 e.1),
        e.2,
        e.3,
        e.4,
      )
    ]
    | inr e ↦ inr (e.0, or_left (E e.0) (n && first a (w.here k) e.0) e.1, e.2, e.3, (m, e.4, r))
  ]

  pub again_from : AgainGoes → (m : ℕ) × Goes a w n E k m × Repeats (Spans a w) m j
  again_from g = elim g [
    | inl z ↦ (k, inl (refl, z.1), (zero, z.0))
    | inr e ↦ elim (or_cases (E e.0) (n && first a (w.here k) e.0) e.1) [
      | inl l ↦ (e.4.0, inr (e.0, l, e.2, e.3, e.4.1), e.4.2)
      | inr y ↦
          let f = both n (first a (w.here k) e.0) y in
          (k, inl (refl, f.0), repeats_from a w begin k j (inr (e.0, f.1, e.2, e.3, e.4)))
    ]
  ]

-- what the null text and the first letters say of one part again, the same letters say
pub absorb_to : (a : Tree) (w : Reading) (n : Bool) (E : Spot → Bool) (k j : ℕ)
    → Goes (Many a) w n (λ q. E q || (n && E q)) k j → Goes (Many a) w n E k j
absorb_to a w n E k j g = elim g [
  | inl z ↦ inl z
  | inr e ↦ inr (
    e.0,
    elim (or_cases (E e.0) (n && E e.0) e.1) [ inl l ↦ l | inr y ↦ (both n (E e.0) y).1 ],
    e.2,
    e.3,
    e.4,
  )
]

pub absorb_from : (a : Tree) (w : Reading) (n : Bool) (E : Spot → Bool) (k j : ℕ) → Goes (Many a) w n E k j
    → Goes (Many a) w n (λ q. E q || (n && E q)) k j
absorb_from a w n E k j g = elim g [
  | inl z ↦ inl z
  | inr e ↦ inr (e.0, or_left (E e.0) (n && E e.0) e.1, e.2, e.3, e.4)
]
