-- A span is a path through the letters of a tree.
use Rattle.std.proofs.Common.{◌≡◌, ℕ, zero, suc, ◌+◌, ◌<◌, ◌≤◌, ◌⊎◌, ◌&&◌, ◌||◌, Bool, true, false, refl, sym, subst}
use Rattle.std.proofs.Common.{inl, inr, arith}
use Rattle.std.specs.Prelude.{IsTrue, ◌↔◌}
use Rattle.re_syntax.specs.Tree.{Tree, Letter, AnyLetter, OneOf, LineStart, LineEnd, Then, Either, Many, Several, Maybe}
use Rattle.re_syntax.specs.Tree.{Group}
use Rattle.re_syntax.specs.Match.{Repeats, Pieces, Joins}
use Rattle.re_spans.specs.Leaves.{takes}
use Rattle.re_sets.specs.Readings.{Reading, Spans, Rune, Null}
use Rattle.re_sets.specs.Spots.{Spot, Only, InLeft, InRight, only, sides, none, takes_at, null, first, last, follow}
use Rattle.re_sets.specs.Spots.{Only', Sides, After, Enters, Goes}
use Rattle.re_sets.proofs.Going.{Begin, rune_to, rune_from, single_to, single_from, then_to, then_from, later_to}
use Rattle.re_sets.proofs.Going.{later_from, either_to, either_from, left_to, left_from, right_to, right_from}
use Rattle.re_sets.proofs.Going.{repeats_to, repeats_from, again_to, again_from, absorb_to, absorb_from}

null_from : (n : Bool) (i j : ℕ) (w : Reading) (r : Tree) → Null n i j ⊎ Enters r w (λ q. false) i j → Null n i j
null_from n i j w r g = elim g [ inl z ↦ z | inr e ↦ absurd (cc (e.1)) ]

pub begins : (r : Tree) (w : Reading) (i j : ℕ) → Begin r w i j
begins (Letter c) w i j = (rune_to (takes (Letter c)) w i j, rune_from (takes (Letter c)) w i j)
begins AnyLetter w i j = (rune_to (takes AnyLetter) w i j, rune_from (takes AnyLetter) w i j)
begins (OneOf negated spans) w i j =
    (rune_to (takes (OneOf negated spans)) w i j, rune_from (takes (OneOf negated spans)) w i j)
begins LineStart w i j = (λ z. inl z, null_from (null LineStart (w.here i)) i j w LineStart)
begins LineEnd w i j = (λ z. inl z, null_from (null LineEnd (w.here i)) i j w LineEnd)
begins (Then a b) w i j = (
  λ p. then_to a b w (null a (w.here i)) (first a (w.here i)) i j (begins b w i j) p.0 ((begins a w i p.0).0 p.1) p.2,
  λ g.
      let p = then_from a b w (null a (w.here i)) (first a (w.here i)) i j (begins b w i j) g in
      (p.0, (begins a w i p.0).1 p.1, p.2),
)
begins (Either a b) w i j = (
  λ h. either_to a b w (null a (w.here i)) (null b (w.here i)) (first a (w.here i)) (first b (w.here i)) i j (elim h [
    | inl x ↦ inl ((begins a w i j).0 x)
    | inr y ↦ inr ((begins b w i j).0 y)
  ]),
  λ g. elim (either_from a b w (null a (w.here i)) (null b (w.here i)) (first a (w.here i)) (first b (w.here i)) i j g) [
    | inl x ↦ inl ((begins a w i j).1 x)
    | inr y ↦ inr ((begins b w i j).1 y)
  ],
)
begins (Many a) w i j = (repeats_to a w (begins a w) i j, repeats_from a w (begins a w) i j)
begins (Several a) w i j = (
  λ p. absorb_to a w (null a (w.here i)) (first a (w.here i)) i j (again_to a w (begins a w) (null a (w.here i))
      (first a (w.here i)) i j p.0 ((begins a w i p.0).0 p.1) p.2),
  λ g.
      let p = again_from a w (begins a w) (null a (w.here i)) (first a (w.here i)) i j
      (absorb_from a w (null a (w.here i)) (first a (w.here i)) i j g) in
      (p.0, (begins a w i p.0).1 p.1, p.2),
)
begins (Maybe a) w i j = (
  λ h. elim h [
    | inl x ↦ elim ((begins a w i j).0 x) [ inl z ↦ inl (z.0, refl) | inr e ↦ inr e ]
    | inr e ↦ inl (e, refl)
  ],
  λ g. elim g [ inl z ↦ inr z.0 | inr e ↦ inl ((begins a w i j).1 (inr e)) ],
)
begins (Group n a) w i j = begins a w i j

abbrev pub GoOn : Tree → Reading → Spot → ℕ → ℕ → Type 0
GoOn r w p k j = After r w p k j ↔ Goes r w (last r (w.here k) p) (follow r (w.here k) p) k j

nowhere : (r : Tree) (w : Reading) (k j : ℕ) → Null false k j ⊎ Enters r w (λ q. false) k j → ⊥
nowhere r w k j g = elim g [ inl z ↦ cc (z.1) | inr e ↦ cc (e.1) ]

single : (r : Tree) (w : Reading) (p : Spot) (k j : ℕ) → Only' (j ≡ k) p ↔
    (Null (only true p) k j ⊎ Enters r w (λ q. false) k j)
single r w p k j = (λ x. inl (single_to p k j x), λ g. single_from p k j (null_from (only true p) k j w r g))

pub goes_on : (r : Tree) (w : Reading) (p : Spot) (k j : ℕ) → GoOn r w p k j
goes_on (Letter c) w p k j = single (Letter c) w p k j
goes_on AnyLetter w p k j = single AnyLetter w p k j
goes_on (OneOf negated spans) w p k j = single (OneOf negated spans) w p k j
goes_on LineStart w p k j = (λ x. absurd x, nowhere LineStart w k j)
goes_on LineEnd w p k j = (λ x. absurd x, nowhere LineEnd w k j)
goes_on (Then a b) w Only k j = (λ x. absurd x, nowhere (Then a b) w k j)
goes_on (Then a b) w (InLeft p) k j = (
  λ x. then_to a b w (last a (w.here k) p) (follow a (w.here k) p) k j (begins b w k j) x.0
      ((goes_on a w p k x.0).0 x.1) x.2,
  λ g.
      let x = then_from a b w (last a (w.here k) p) (follow a (w.here k) p) k j (begins b w k j) g in
      (x.0, (goes_on a w p k x.0).1 x.1, x.2),
)
goes_on (Then a b) w (InRight p) k j = (
  λ x. later_to a b w (last b (w.here k) p) (follow b (w.here k) p) k j ((goes_on b w p k j).0 x),
  λ g. (goes_on b w p k j).1 (later_from a b w (last b (w.here k) p) (follow b (w.here k) p) k j g),
)
goes_on (Either a b) w Only k j = (λ x. absurd x, nowhere (Either a b) w k j)
goes_on (Either a b) w (InLeft p) k j = (
  λ x. left_to a b w (last a (w.here k) p) (follow a (w.here k) p) k j ((goes_on a w p k j).0 x),
  λ g. (goes_on a w p k j).1 (left_from a b w (last a (w.here k) p) (follow a (w.here k) p) k j g),
)
goes_on (Either a b) w (InRight p) k j = (
  λ x. right_to a b w (last b (w.here k) p) (follow b (w.here k) p) k j ((goes_on b w p k j).0 x),
  λ g. (goes_on b w p k j).1 (right_from a b w (last b (w.here k) p) (follow b (w.here k) p) k j g),
)
goes_on (Many a) w p k j = (
  λ x. again_to a w (begins a w) (last a (w.here k) p) (follow a (w.here k) p) k j x.0 ((goes_on a w p k x.0).0 x.1)
      x.2,
  λ g.
      let x = again_from a w (begins a w) (last a (w.here k) p) (follow a (w.here k) p) k j g in
      (x.0, (goes_on a w p k x.0).1 x.1, x.2),
)
goes_on (Several a) w p k j = (
  λ x. again_to a w (begins a w) (last a (w.here k) p) (follow a (w.here k) p) k j x.0 ((goes_on a w p k x.0).0 x.1)
      x.2,
  λ g.
      let x = again_from a w (begins a w) (last a (w.here k) p) (follow a (w.here k) p) k j g in
      (x.0, (goes_on a w p k x.0).1 x.1, x.2),
)
goes_on (Maybe a) w p k j = goes_on a w p k j
goes_on (Group n a) w p k j = goes_on a w p k j
