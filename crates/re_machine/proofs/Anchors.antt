-- A tree without anchors is the same in all kinds of places.
use Rattle.std.proofs.Common.{◌≡◌, ℕ, ◌||◌, Bool, true, false, refl, sym, subst}
use Rattle.std.specs.Prelude.{IsTrue}
use Rattle.re_syntax.specs.Tree.{Tree, Letter, AnyLetter, OneOf, LineStart, LineEnd, Then, Either, Many, Several, Maybe}
use Rattle.re_syntax.specs.Tree.{Group}
use Rattle.re_spans.specs.declared.leaf.Here.{Here}
use Rattle.re_sets.specs.Readings.{read_as}
use Rattle.re_sets.specs.Spots.{Spot, Only, InLeft, InRight, null, first, last, follow}
use Rattle.re_sets.specs.Numbers.{bits, rows}
use Rattle.re_sets.specs.Words.{IsSet}
use Rattle.re_sets.proofs.Filling.{bits_map}
use Rattle.re_machine.specs.Contexts.{has_anchor}

neither : (x y : Bool) → (x || y) ≡ false → (x ≡ false) × (y ≡ false)
neither true y e = absurd (cc e)
neither false y e = (refl, e)

pub read_anchor : (back : Bool) (r : Tree) → has_anchor (read_as back r) ≡ has_anchor r
read_anchor back (Letter c) = refl
read_anchor back AnyLetter = refl
read_anchor back (OneOf negated spans) = refl
read_anchor back LineStart = refl
read_anchor back LineEnd = refl
read_anchor true (Then a b) = cc (read_anchor true a, read_anchor true b, or_turns (has_anchor b) (has_anchor a))
  where
    or_turns : (x y : Bool) → (x || y) ≡ (y || x)
    or_turns true true = refl
    or_turns true false = refl
    or_turns false true = refl
    or_turns false false = refl
read_anchor false (Then a b) = cc (read_anchor false a, read_anchor false b)
read_anchor back (Either a b) = cc (read_anchor back a, read_anchor back b)
read_anchor back (Many a) = read_anchor back a
read_anchor back (Several a) = read_anchor back a
read_anchor back (Maybe a) = read_anchor back a
read_anchor back (Group n a) = read_anchor back a

pub null_same : (r : Tree) (x y : Here) → has_anchor r ≡ false → null r x ≡ null r y
null_same (Letter c) x y e = refl
null_same AnyLetter x y e = refl
null_same (OneOf negated spans) x y e = refl
null_same LineStart x y e = absurd (cc e)
null_same LineEnd x y e = absurd (cc e)
null_same (Then a b) x y e = let n = neither (has_anchor a) (has_anchor b) e in
    cc (null_same a x y n.0, null_same b x y n.1)
null_same (Either a b) x y e = let n = neither (has_anchor a) (has_anchor b) e in
    cc (null_same a x y n.0, null_same b x y n.1)
null_same (Many a) x y e = refl
null_same (Several a) x y e = null_same a x y e
null_same (Maybe a) x y e = refl
null_same (Group n a) x y e = null_same a x y e

pub first_same : (r : Tree) (x y : Here) (q : Spot) → has_anchor r ≡ false → first r x q ≡ first r y q
first_same (Letter c) x y q e = refl
first_same AnyLetter x y q e = refl
first_same (OneOf negated spans) x y q e = refl
first_same LineStart x y q e = refl
first_same LineEnd x y q e = refl
first_same (Then a b) x y Only e = refl
first_same (Then a b) x y (InLeft q) e = first_same a x y q (neither (has_anchor a) (has_anchor b) e).0
first_same (Then a b) x y (InRight q) e = let n = neither (has_anchor a) (has_anchor b) e in
    cc (null_same a x y n.0, first_same b x y q n.1)
first_same (Either a b) x y Only e = refl
first_same (Either a b) x y (InLeft q) e = first_same a x y q (neither (has_anchor a) (has_anchor b) e).0
first_same (Either a b) x y (InRight q) e = first_same b x y q (neither (has_anchor a) (has_anchor b) e).1
first_same (Many a) x y q e = first_same a x y q e
first_same (Several a) x y q e = first_same a x y q e
first_same (Maybe a) x y q e = first_same a x y q e
first_same (Group n a) x y q e = first_same a x y q e

pub last_same : (r : Tree) (x y : Here) (q : Spot) → has_anchor r ≡ false → last r x q ≡ last r y q
last_same (Letter c) x y q e = refl
last_same AnyLetter x y q e = refl
last_same (OneOf negated spans) x y q e = refl
last_same LineStart x y q e = refl
last_same LineEnd x y q e = refl
last_same (Then a b) x y Only e = refl
last_same (Then a b) x y (InLeft q) e = let n = neither (has_anchor a) (has_anchor b) e in
    cc (last_same a x y q n.0, null_same b x y n.1)
last_same (Then a b) x y (InRight q) e = last_same b x y q (neither (has_anchor a) (has_anchor b) e).1
last_same (Either a b) x y Only e = refl
last_same (Either a b) x y (InLeft q) e = last_same a x y q (neither (has_anchor a) (has_anchor b) e).0
last_same (Either a b) x y (InRight q) e = last_same b x y q (neither (has_anchor a) (has_anchor b) e).1
last_same (Many a) x y q e = last_same a x y q e
last_same (Several a) x y q e = last_same a x y q e
last_same (Maybe a) x y q e = last_same a x y q e
last_same (Group n a) x y q e = last_same a x y q e

pub follow_same : (r : Tree) (x y : Here) (p q : Spot) → has_anchor r ≡ false → follow r x p q ≡ follow r y p q
follow_same (Letter c) x y p q e = refl
follow_same AnyLetter x y p q e = refl
follow_same (OneOf negated spans) x y p q e = refl
follow_same LineStart x y p q e = refl
follow_same LineEnd x y p q e = refl
follow_same (Then a b) x y Only q e = refl
follow_same (Then a b) x y (InLeft p) Only e = refl
follow_same (Then a b) x y (InLeft p) (InLeft q) e = follow_same a x y p q (neither (has_anchor a) (has_anchor b) e).0
follow_same (Then a b) x y (InLeft p) (InRight q) e = let n = neither (has_anchor a) (has_anchor b) e in
    cc (last_same a x y p n.0, first_same b x y q n.1)
follow_same (Then a b) x y (InRight p) Only e = refl
follow_same (Then a b) x y (InRight p) (InLeft q) e = refl
follow_same (Then a b) x y (InRight p) (InRight q) e = follow_same b x y p q (neither (has_anchor a) (has_anchor b) e).1
follow_same (Either a b) x y Only q e = refl
follow_same (Either a b) x y (InLeft p) Only e = refl
follow_same (Either a b) x y (InLeft p) (InLeft q) e = follow_same a x y p q (neither (has_anchor a) (has_anchor b) e).0
follow_same (Either a b) x y (InLeft p) (InRight q) e = refl
follow_same (Either a b) x y (InRight p) Only e = refl
follow_same (Either a b) x y (InRight p) (InLeft q) e = refl
follow_same (Either a b) x y (InRight p) (InRight q) e = follow_same b x y p q
    (neither (has_anchor a) (has_anchor b) e).1
follow_same (Many a) x y p q e = cc (follow_same a x y p q e, last_same a x y p e, first_same a x y q e)
follow_same (Several a) x y p q e = cc (follow_same a x y p q e, last_same a x y p e, first_same a x y q e)
follow_same (Maybe a) x y p q e = follow_same a x y p q e
follow_same (Group n a) x y p q e = follow_same a x y p q e

pub set_here : (r : Tree) (s u : Spot → Bool) (word : ℕ) → ((p : Spot) → s p ≡ u p) → IsSet r 0 s word
    → IsSet r 0 u word
set_here r s u word f is n = (
  λ h. bits_map r 0 s u n (λ p t. subst IsTrue (f p) t) ((is n).0 h),
  λ h. (is n).1 (bits_map r 0 u s n (λ p t. subst IsTrue (sym (f p)) t) h),
)

pub rows_here : (r : Tree) (f g : Spot → Spot → Bool) (m n : ℕ) → ((p q : Spot) → f p q ≡ g p q)
    → IsTrue (rows r 0 f m n) → IsTrue (rows r 0 g m n)
rows_here r f g m n h t = bits_map r 0 (λ p. bits r 0 (f p) n) (λ p. bits r 0 (g p) n) m
    (λ p u. bits_map r 0 (f p) (g p) n (λ q v. subst IsTrue (h p q) v) u) t
