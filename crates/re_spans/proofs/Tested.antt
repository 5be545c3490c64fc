-- The test of a match tells what a match is.
use Rattle.std.proofs.Common.{◌≡◌, ℕ, zero, suc, ◌+◌, ◌-◌, ◌≤◌, ◌&&◌, Bool, true, List, inl, inr, arith}
use Rattle.std.specs.Prelude.{◌==◌, nat_lt}
use Rattle.std.proofs.lemmas.Bool.{and_parts, and_from, or_cases, or_left, or_right, eqb-true, eq-eqb, ltb-true, lt-ltb}
use Rattle.re_syntax.specs.Tree.{Tree, Letter, AnyLetter, OneOf, LineStart, LineEnd, Then, Either, Many, Several, Maybe}
use Rattle.re_syntax.specs.Tree.{Group}
use Rattle.re_syntax.specs.Match.{Matches, Pieces, Repeats}
use Rattle.re_spans.proofs.Ways.{Matches-on}
use Rattle.re_spans.specs.Search.{has_place, leads, matches}
use Rattle.re_spans.proofs.Least.{has_place_tells, has_place_from}

leads_tells : (piece : ℕ → ℕ → Bool) (R : ℕ → ℕ → Type 0) → ((i j : ℕ) → piece i j ≡ true → R i j) → (n i j : ℕ)
    → leads piece n i j ≡ true → Repeats R i j
leads_tells piece R tells zero i j e = (0, eqb-true j i e)
leads_tells piece R tells (suc n) i j e = elim (or_cases (j == i) (has_place (λ k. nat_lt i k
    && (piece i k && leads piece n k j)) i j) e) [
      | inl same ↦ (0, eqb-true j i same)
      | inr goes ↦
          let k = has_place_tells (λ k. nat_lt i k && (piece i k && leads piece n k j)) i j goes in
          let far = and_parts (nat_lt i k.0) (piece i k.0 && leads piece n k.0 j) k.1.passes in
          let near = and_parts (piece i k.0) (leads piece n k.0 j) far.1 in
          let rest = leads_tells piece R tells n k.0 j near.1 in
          (suc rest.0, (k.0, ltb-true i k.0 far.0, tells i k.0 near.0, rest.1))
    ]

pieces_on : (R : ℕ → ℕ → Type 0) (m i j : ℕ) → Pieces R m i j → i + m ≤ j
pieces_on R zero i j e = omega arith
pieces_on R (suc m) i j h = omega (arith, h.1, pieces_on R m h.0 j h.3)

leads_from : (piece : ℕ → ℕ → Bool) (R : ℕ → ℕ → Type 0) → ((i j : ℕ) → R i j → piece i j ≡ true) → (m n i j : ℕ)
    → m ≤ n → Pieces R m i j → leads piece n i j ≡ true
leads_from piece R found zero zero i j l e = eq-eqb j i e
leads_from piece R found zero (suc n) i j l e = or_left (j == i) _ (eq-eqb j i e)
leads_from piece R found (suc m) zero i j l h = absurd (omega arith)
leads_from piece R found (suc m) (suc n) i j l h =
    let k = h.0 in
    let on : k + m ≤ j = pieces_on R m k j h.3 in
    or_right (j == i) _ (has_place_from (λ k. nat_lt i k && (piece i k && leads piece n k j)) i j k (omega (arith, h.1))
    (omega arith) (and_from (nat_lt i k) (piece i k && leads piece n k j) (lt-ltb i k h.1)
    (and_from (piece i k) (leads piece n k j) (found i k h.2) (leads_from piece R found m n k j (omega arith)
    h.3))))

repeats_from : (piece : ℕ → ℕ → Bool) (R : ℕ → ℕ → Type 0) → ((i j : ℕ) → R i j → piece i j ≡ true) → (i j : ℕ)
    → Repeats R i j → leads piece (j - i) i j ≡ true
repeats_from piece R found i j h = leads_from piece R found h.0 (j - i) i j (omega (arith, pieces_on R h.0 i j h.1)) h.1

repeats_on : (R : ℕ → ℕ → Type 0) (i j : ℕ) → Repeats R i j → i ≤ j
repeats_on R i j h = omega (arith, pieces_on R h.0 i j h.1)

pub matches_tell : (r : Tree) (t : List ℕ) (i j : ℕ) → matches r t i j ≡ true → Matches r t i j
matches_tell (Letter c) t i j e = e
matches_tell AnyLetter t i j e = e
matches_tell (OneOf negated spans) t i j e = e
matches_tell LineStart t i j e = e
matches_tell LineEnd t i j e = e
matches_tell (Then a b) t i j e =
    let k = has_place_tells (λ k. matches a t i k && matches b t k j) i j e in
    let both = and_parts (matches a t i k.0) (matches b t k.0 j) k.1.passes in
    (k.0, matches_tell a t i k.0 both.0, matches_tell b t k.0 j both.1)
matches_tell (Either a b) t i j e = elim (or_cases (matches a t i j) (matches b t i j) e) [
  | inl x ↦ inl (matches_tell a t i j x)
  | inr y ↦ inr (matches_tell b t i j y)
]
matches_tell (Many a) t i j e = leads_tells (matches a t) (Matches a t) (matches_tell a t) (j - i) i j e
matches_tell (Several a) t i j e =
    let k = has_place_tells (λ k. matches a t i k && leads (matches a t) (j - k) k j) i j e in
    let both = and_parts (matches a t i k.0) (leads (matches a t) (j - k.0) k.0 j) k.1.passes in (
      k.0,
      matches_tell a t i k.0 both.0,
      leads_tells (matches a t) (Matches a t) (matches_tell a t) (j - k.0) k.0 j
          both.1,
    )
matches_tell (Maybe a) t i j e = elim (or_cases (matches a t i j) (j == i) e) [
  | inl x ↦ inl (matches_tell a t i j x)
  | inr same ↦ inr (eqb-true j i same)
]
matches_tell (Group n a) t i j e = matches_tell a t i j e

pub matches_from : (r : Tree) (t : List ℕ) (i j : ℕ) → Matches r t i j → matches r t i j ≡ true
matches_from (Letter c) t i j m = m
matches_from AnyLetter t i j m = m
matches_from (OneOf negated spans) t i j m = m
matches_from LineStart t i j m = m
matches_from LineEnd t i j m = m
matches_from (Then a b) t i j m =
    has_place_from (λ k. matches a t i k && matches b t k j) i j m.0 (Matches-on a t i m.0 m.1)
    (Matches-on b t m.0 j m.2) (and_from (matches a t i m.0) (matches b t m.0 j) (matches_from a t i m.0 m.1)
    (matches_from b t m.0 j m.2))
matches_from (Either a b) t i j m = elim m [
  | inl x ↦ or_left (matches a t i j) (matches b t i j) (matches_from a t i j x)
  | inr y ↦ or_right (matches a t i j) (matches b t i j) (matches_from b t i j y)
]
matches_from (Many a) t i j m = repeats_from (matches a t) (Matches a t) (matches_from a t) i j m
matches_from (Several a) t i j m =
    has_place_from (λ k. matches a t i k && leads (matches a t) (j - k) k j) i j m.0 (Matches-on a t i m.0 m.1)
    (repeats_on (Matches a t) m.0 j m.2) (and_from (matches a t i m.0) (leads (matches a t) (j - m.0) m.0 j)
    (matches_from a t i m.0 m.1) (repeats_from (matches a t) (Matches a t) (matches_from a t) m.0 j m.2))
matches_from (Maybe a) t i j m = elim m [
  | inl x ↦ or_left (matches a t i j) (j == i) (matches_from a t i j x)
  | inr same ↦ or_right (matches a t i j) (j == i) (eq-eqb j i same)
]
matches_from (Group n a) t i j m = matches_from a t i j m
