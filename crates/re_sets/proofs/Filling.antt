-- The rows of a tree from those of its parts.
use Rattle.std.proofs.Common.{◌≡◌, ℕ, ◌+◌, ◌<◌, ◌≤◌, ◌⊎◌, ◌==◌, ◌&&◌, ◌||◌, Bool, true, false, List, refl, sym, subst}
use Rattle.std.proofs.Common.{inl, inr, arith}
use Rattle.std.specs.Prelude.{IsTrue, ◌↔◌, bit_or, if◌then◌else◌}
use Rattle.std.proofs.lemmas.Bool.{or_cases, or_left, or_right}
use Rattle.re_syntax.specs.Tree.{Tree, Then, Either, Many, Several, Maybe, Group}
use Rattle.re_spans.specs.declared.leaf.Here.{Here}
use Rattle.re_sets.specs.Spots.{Spot, InLeft, InRight, sides, none, takes_at, null, first, last, follow}
use Rattle.re_sets.specs.Numbers.{letters, is_letter, number, bits, rows}
use Rattle.re_sets.specs.Words.{on, IsSet}
use Rattle.re_sets.proofs.Going.{both, and_true}
use Rattle.re_sets.proofs.Numbering.{letter_of, bit_of}
use Rattle.re_sets.proofs.Wording.{on_or_left, on_or_right, on_or_cases}

-- ---- bits of sets

pub bits_map : (r : Tree) (base : ℕ) (s u : Spot → Bool) (n : ℕ) → ((p : Spot) → IsTrue (s p) → IsTrue (u p))
    → IsTrue (bits r base s n) → IsTrue (bits r base u n)
bits_map r base s u n f h =
    let p = letter_of r base s n h in
    subst (λ (z : ℕ). IsTrue (bits r base u z)) p.2 (bit_of r base u p.0 p.1 (f p.0 p.3))

bits_or : (r : Tree) (base : ℕ) (s u : Spot → Bool) (n : ℕ) → IsTrue (bits r base (λ p. s p || u p) n)
    → IsTrue (bits r base s n) ⊎ IsTrue (bits r base u n)
bits_or r base s u n h =
    let p = letter_of r base (λ p. s p || u p) n h in
    elim (or_cases (s p.0) (u p.0) p.3) [
      | inl x ↦ inl (subst (λ (z : ℕ). IsTrue (bits r base s z)) p.2 (bit_of r base s p.0 p.1 x))
      | inr y ↦ inr (subst (λ (z : ℕ). IsTrue (bits r base u z)) p.2 (bit_of r base u p.0 p.1 y))
    ]

-- a set behind a test
bits_if : (r : Tree) (base : ℕ) (b : Bool) (s : Spot → Bool) (n : ℕ) → IsTrue (bits r base (λ p. b && s p) n) → IsTrue b
    × IsTrue (bits r base s n)
bits_if r base b s n h =
    let p = letter_of r base (λ p. b && s p) n h in
    let x = both b (s p.0) p.3 in
    (x.0, subst (λ (z : ℕ). IsTrue (bits r base s z)) p.2 (bit_of r base s p.0 p.1 x.1))

bits_then : (r : Tree) (base : ℕ) (b : Bool) (s : Spot → Bool) (n : ℕ) → IsTrue b → IsTrue (bits r base s n)
    → IsTrue (bits r base (λ p. b && s p) n)
bits_then r base b s n t h = bits_map r base s (λ p. b && s p) n (λ p x. and_true b (s p) t x) h

bits_none : (r : Tree) (base : ℕ) (n : ℕ) → IsTrue (bits r base (λ p. false) n) → ⊥
bits_none r base n h = let p = letter_of r base (λ p. false) n h in cc (p.3)

-- the test behind the set
bits_if_last : (r : Tree) (base : ℕ) (b : Bool) (s : Spot → Bool) (n : ℕ) → IsTrue (bits r base (λ p. s p && b) n)
    → IsTrue b × IsTrue (bits r base s n)
bits_if_last r base b s n h =
    let p = letter_of r base (λ p. s p && b) n h in
    let x = both (s p.0) b p.3 in
    (x.1, subst (λ (z : ℕ). IsTrue (bits r base s z)) p.2 (bit_of r base s p.0 p.1 x.0))

-- ---- rows

-- the rows of two sets
pub cross_to : (a b : Tree) (m n i j : ℕ) (s u : Spot → Bool) → IsTrue (bits a i s m) → IsTrue (bits b j u n)
    → IsTrue (bits a i (λ p. bits b j (λ q. s p && u q) n) m)
cross_to a b m n i j s u h g = bits_map a i s (λ p. bits b j (λ q. s p && u q) n) m (λ p x. bits_then b j (s p) u n x g)
    h

pub cross_from : (a b : Tree) (m n i j : ℕ) (s u : Spot → Bool) → IsTrue
    (bits a i (λ p. bits b j (λ q. s p && u q) n) m) → IsTrue (bits a i s m) × IsTrue (bits b j u n)
cross_from a b m n i j s u h =
    let p = letter_of a i (λ p. bits b j (λ q. s p && u q) n) m h in
    let x = bits_if b j (s p.0) u n p.3 in
    (subst (λ (z : ℕ). IsTrue (bits a i s z)) p.2 (bit_of a i s p.0 p.1 x.0), x.1)

pub then_rows : (a b : Tree) (base : ℕ) (x : Here) (m n : ℕ) → IsTrue (rows (Then a b) base (follow (Then a b) x) m n) ↔
    (IsTrue (rows a base (follow a x) m n) ⊎ (IsTrue (rows b (base + letters a) (follow b x) m n)
    ⊎ (IsTrue (bits a base (last a x) m) × IsTrue (bits b (base + letters a) (first b x) n))))
then_rows a b base x m n =
    let c : ℕ = base + letters a in
    let f : Spot → Bool = λ p. bits a base (follow a x p) n in
    let g : Spot → Bool = λ p. bits b c (λ q. last a x p && first b x q) n in
    let h : Spot → Bool = λ p. bits a base (λ q. false) n in
    let k : Spot → Bool = λ p. bits b c (follow b x p) n in (
      λ t. elim (or_cases (bits a base (λ p. f p || g p) m) (bits b c (λ p. h p || k p) m) t) [
        | inl u ↦ elim (bits_or a base f g m u) [
          | inl v ↦ inl v
          | inr v ↦ inr
              (inr (cross_from a b m n base c (last a x) (first b x) v))
        ]
        | inr u ↦ elim (bits_or b c h k m u) [
          | inl v ↦ absurd (let p = letter_of b c h m v in bits_none a base n p.3)
          | inr v ↦ inr (inl v)
        ]
      ],
      λ t. elim t [
        | inl u ↦ or_left (bits a base (λ p. f p || g p) m) (bits b c (λ p. h p || k p) m)
            (bits_map a base f (λ p. f p || g p) m (λ p y. or_left (f p) (g p) y) u)
        | inr v ↦ elim v [
          | inl u ↦ or_right (bits a base (λ p. f p || g p) m) (bits b c (λ p. h p || k p) m)
              (bits_map b c k (λ p. h p || k p) m (λ p y. or_right (h p) (k p) y) u)
          | inr u ↦ or_left (bits a base (λ p. f p || g p) m) (bits b c (λ p. h p || k p) m)
              (bits_map a base g (λ p. f p || g p) m (λ p y. or_right (f p) (g p) y)
              (cross_to a b m n base c (last a x) (first b x) u.0 u.1))
        ]
      ],
    )

pub either_rows : (a b : Tree) (base : ℕ) (x : Here) (m n : ℕ) → IsTrue
    (rows (Either a b) base (follow (Either a b) x) m n) ↔ (IsTrue (rows a base (follow a x) m n)
    ⊎ IsTrue (rows b (base + letters a) (follow b x) m n))
either_rows a b base x m n =
    let c : ℕ = base + letters a in
    let f : Spot → Bool = λ p. bits a base (follow a x p) n in
    let g : Spot → Bool = λ p. bits b c (λ q. false) n in
    let h : Spot → Bool = λ p. bits a base (λ q. false) n in
    let k : Spot → Bool = λ p. bits b c (follow b x p) n in (
      λ t. elim (or_cases (bits a base (λ p. f p || g p) m) (bits b c (λ p. h p || k p) m) t) [
        | inl u ↦ elim (bits_or a base f g m u) [
          | inl v ↦ inl v
          | inr v ↦ absurd
              (let p = letter_of a base g m v in bits_none b c n p.3)
        ]
        | inr u ↦ elim (bits_or b c h k m u) [
          | inl v ↦ absurd (let p = letter_of b c h m v in bits_none a base n p.3)
          | inr v ↦ inr v
        ]
      ],
      λ t. elim t [
        | inl u ↦ or_left (bits a base (λ p. f p || g p) m) (bits b c (λ p. h p || k p) m)
            (bits_map a base f (λ p. f p || g p) m (λ p y. or_left (f p) (g p) y) u)
        | inr u ↦ or_right (bits a base (λ p. f p || g p) m) (bits b c (λ p. h p || k p) m)
            (bits_map b c k (λ p. h p || k p) m (λ p y. or_right (h p) (k p) y) u)
      ],
    )

pub again_rows : (a : Tree) (base : ℕ) (x : Here) (m n : ℕ) → IsTrue
    (rows a base (λ p q. follow a x p q || (last a x p && first a x q)) m n) ↔
    (IsTrue (rows a base (follow a x) m n) ⊎ (IsTrue (bits a base (last a x) m) × IsTrue (bits a base (first a x) n)))
again_rows a base x m n =
    let f : Spot → Bool = λ p. bits a base (follow a x p) n in
    let g : Spot → Bool = λ p. bits a base (λ q. last a x p && first a x q) n in
    let all : Spot → Bool = λ p. bits a base (λ q. follow a x p q || (last a x p && first a x q)) n in (
      λ t.
          let p = letter_of a base all m t in
          let up : (s : Spot → Bool) → IsTrue (s p.0) → IsTrue (bits a base s m) =
          λ s y. subst (λ (z : ℕ). IsTrue (bits a base s z)) p.2 (bit_of a base s p.0 p.1 y) in
          elim (bits_or a base (follow a x p.0) (λ q. last a x p.0 && first a x q) n p.3) [
            | inl u ↦ inl (up f u)
            | inr u ↦ inr (cross_from a a m n base base (last a x) (first a x) (up g u))
          ],
      λ t. elim t [
        | inl u ↦ bits_map a base f all m (λ p y. bits_map a base (follow a x p)
            (λ q. follow a x p q || (last a x p && first a x q)) n
            (λ q z. or_left (follow a x p q) (last a x p && first a x q) z) y) u
        | inr u ↦ bits_map a base g all m (λ p y. bits_map a base (λ q. last a x p && first a x q)
            (λ q. follow a x p q || (last a x p && first a x q)) n
            (λ q z. or_right (follow a x p q) (last a x p && first a x q) z) y)
            (cross_to a a m n base base (last a x) (first a x) u.0 u.1)
      ],
    )

-- ---- words

pub either_word : (x y n : ℕ) (P Q : Bool) → IsTrue (on x n) ↔ IsTrue P → IsTrue (on y n) ↔ IsTrue Q
    → IsTrue (on (bit_or x y) n) ↔ IsTrue (P || Q)
either_word x y n P Q p q = (
  λ h. elim (on_or_cases x y n h) [ inl u ↦ or_left P Q (p.0 u) | inr u ↦ or_right P Q (q.0 u) ],
  λ h. elim (or_cases P Q h) [ inl u ↦ on_or_left x y n (p.1 u) | inr u ↦ on_or_right x y n (q.1 u) ],
)

-- the first letters of one part after the other
pub then_first : (a b : Tree) (base : ℕ) (x : Here) (u v : ℕ) (b' : Bool) → b' ≡ null a x → IsSet a base (first a x) u
    → IsSet b (base + letters a) (first b x) v → IsSet (Then a b) base (first (Then a b) x)
    (if b' then bit_or u v else u)
then_first a b base x u v true e p q n = (
  λ h. elim (on_or_cases u v n h) [
    | inl y ↦ or_left (bits a base (first a x) n) (bits b (base + letters a) (λ s. null a x && first b x s) n)
        ((p n).0 y)
    | inr y ↦ or_right (bits a base (first a x) n) (bits b (base + letters a) (λ s. null a x && first b x s) n)
        (bits_then b (base + letters a) (null a x) (first b x) n (sym e) ((q n).0 y))
  ],
  λ h. elim (or_cases (bits a base (first a x) n) (bits b (base + letters a) (λ s. null a x && first b x s) n) h) [
    | inl y ↦ on_or_left u v n ((p n).1 y)
    | inr y ↦ on_or_right u v n ((q n).1 (bits_if b (base + letters a) (null a x) (first b x) n y).1)
  ],
)
then_first a b base x u v false e p q n = (
  λ h. or_left (bits a base (first a x) n) (bits b (base + letters a) (λ s. null a x && first b x s) n) ((p n).0 h),
  λ h. elim (or_cases (bits a base (first a x) n) (bits b (base + letters a) (λ s. null a x && first b x s) n) h) [
    | inl y ↦ (p n).1 y
    | inr y ↦ absurd (let t = (bits_if b (base + letters a) (null a x) (first b x) n y).0 in cc (e, t))
  ],
)

pub then_last : (a b : Tree) (base : ℕ) (x : Here) (u v : ℕ) (b' : Bool) → b' ≡ null b x → IsSet a base (last a x) u
    → IsSet b (base + letters a) (last b x) v → IsSet (Then a b) base (last (Then a b) x) (if b' then bit_or v u else v)
then_last a b base x u v true e p q n = (
  λ h. elim (on_or_cases v u n h) [
    | inl y ↦ or_right (bits a base (λ s. last a x s && null b x) n) (bits b (base + letters a) (last b x) n)
        ((q n).0 y)
    | inr y ↦ or_left (bits a base (λ s. last a x s && null b x) n) (bits b (base + letters a) (last b x) n)
        (bits_map a base (last a x) (λ s. last a x s && null b x) n (λ s z. and_true (last a x s) (null b x) z (sym e))
        ((p n).0 y))
  ],
  λ h. elim (or_cases (bits a base (λ s. last a x s && null b x) n) (bits b (base + letters a) (last b x) n) h) [
    | inl y ↦ on_or_right v u n ((p n).1 (bits_if_last a base (null b x) (last a x) n y).1)
    | inr y ↦ on_or_left v u n ((q n).1 y)
  ],
)
then_last a b base x u v false e p q n = (
  λ h. or_right (bits a base (λ s. last a x s && null b x) n) (bits b (base + letters a) (last b x) n) ((q n).0 h),
  λ h. elim (or_cases (bits a base (λ s. last a x s && null b x) n) (bits b (base + letters a) (last b x) n) h) [
    | inl y ↦ absurd (let t = (bits_if_last a base (null b x) (last a x) n y).0 in cc (e, t))
    | inr y ↦ (q n).1 y
  ],
)
