-- The groups of a match are the value that they are said to be.
use Rattle.std.proofs.Common.{◌≡◌, ℕ, zero, suc, ◌+◌, ◌-◌, ◌<◌, ◌≤◌, ◌&&◌, Bool, true, false, cond, eqb, List, Option}
use Rattle.std.proofs.Common.{Some, None, refl, sym, ap, ◌∙◌, inl, inr, arith, is_some}
use Rattle.std.specs.Prelude.{IfSome, nat_le, slice_set, replicate}
use Rattle.std.proofs.lemmas.Bool.{and_parts, and_from, both_ways, le-leb, leb-true, eq-eqb, ne_eqb, cases_Bool}
use Rattle.std.proofs.lemmas.Bool.{cases_lt}
use Rattle.am_text.specs.declared.range.Range.{Range}
use Rattle.re_syntax.specs.Groups.{IsLongest, AheadBy, Walk, OfPiece, Sets, AreGroups}
use Rattle.re_syntax.specs.Match.{Matches}
use Rattle.re_syntax.specs.Tree.{Tree, Letter, AnyLetter, OneOf, LineStart, LineEnd, Then, Either, Many, Several, Maybe}
use Rattle.re_syntax.specs.Tree.{Group}
use Rattle.re_spans.specs.Search.{greatest, matches}
use Rattle.re_spans.proofs.Least.{IsGreatest, greatest_is, greatest_finds}
use Rattle.re_spans.proofs.Tested.{matches_tell, matches_from}
use Rattle.re_spans.proofs.Ways.{Matches-on}
use Rattle.re_spans.specs.Groups.{span, goes_on, seam, at_seam, last_piece, of_piece, sets, groups_of}

-- ---- the greatest place that passes

pub greatest_known : (p : ℕ → Bool) (low n k : ℕ) → low ≤ k → k < low + n
    → p k ≡ true → ((m : ℕ) → low ≤ m → m < low + n → p m ≡ true → m ≤ k) → greatest p low n ≡ Some k
greatest_known p low n k above below passes last = of (greatest p low n) (greatest_finds p low n k above below passes)
    (greatest_is p low n)
  where
    of : (o : Option ℕ) → is_some o ≡ true → IfSome o (IsGreatest p low n) → o ≡ Some k
    of None e h = absurd (both_ways false refl e)
    of (Some g) e h =
        let near : g ≤ k = last g h.above h.below h.passes in
        elim (cases_lt g k) [
          | inl l ↦ absurd (both_ways (p k) (h.behind k l below) passes)
          | inr l ↦ ap (λ (x : ℕ). Some x) (omega (arith, near, l))
        ]

-- ---- two parts, one after the other

pub seam_is : (a b : Tree) (t : List ℕ) (n i j k : ℕ) → IsLongest (AheadBy n (Matches a t)) (Matches b t) i j k
    → seam n (matches a t) (matches b t) i j ≡ Some k
seam_is a b t n i j k h =
    let test = λ (m : ℕ). nat_le (i + n) m && (matches a t i m && matches b t m j) in
    let far : i + n ≤ k = h.0.0 in
    let on : k ≤ j = Matches-on b t k j h.1 in
    greatest_known test i (j + 1 - i) k (omega (arith, far)) (omega (arith, far, on))
    (and_from (nat_le (i + n) k) (matches a t i k && matches b t k j) (le-leb (i + n) k far)
    (and_from (matches a t i k) (matches b t k j) (matches_from a t i k h.0.1) (matches_from b t k j h.1)))
    (λ m above below e.
    let first = and_parts (nat_le (i + n) m) (matches a t i m && matches b t m j) e in
    let both = and_parts (matches a t i m) (matches b t m j) first.1 in
    h.2 m (leb-true (i + n) m first.0, matches_tell a t i m both.0) (matches_tell b t m j both.1))

-- ---- pieces

pub walk_is : (a : Tree) (t : List ℕ) (n fuel i j : ℕ) (last out : Option Range) → j ≤ i + fuel
    → Walk (Matches a t) n i j last out → out ≡ last_piece (matches a t) fuel i j last
walk_is a t zero zero i j last out l w = w.1
walk_is a t zero (suc fuel) i j last out l w =
    w.1 ∙ sym (ap (λ (b : Bool). cond b last (at_seam last (λ k. last_piece (matches a t) fuel k j (Some (span i k)))
    (seam 1 (matches a t) (goes_on (matches a t)) i j))) (eq-eqb i j w.0))
walk_is a t (suc n) zero i j last out l w =
    let k = w.0 in
    let far : i + 1 ≤ k = w.1.0.0 in
    let on : k ≤ j = Matches-on (Many a) t k j w.1.1 in
    absurd (omega (arith, far, on, l))
walk_is a t (suc n) (suc fuel) i j last out l w =
    let k = w.0 in
    let far : i + 1 ≤ k = w.1.0.0 in
    let on : k ≤ j = Matches-on (Many a) t k j w.1.1 in
    let apart : eqb i j ≡ false = ne_eqb i j (λ e. omega (arith, far, on, e)) in
    walk_is a t n fuel k j (Some (span i k)) out (omega (arith, far, l)) w.2
    ∙ sym (ap (λ (b : Bool). cond b last (at_seam last (λ k. last_piece (matches a t) fuel k j (Some (span i k)))
    (seam 1 (matches a t) (goes_on (matches a t)) i j))) apart
    ∙ ap (at_seam last (λ k. last_piece (matches a t) fuel k j (Some (span i k)))) (seam_is a (Many a) t 1 i j k w.1))

piece_is : (G : ℕ → ℕ → List (Option Range) → List (Option Range) → Type 0)
    (g : ℕ → ℕ → List (Option Range) → List (Option Range)) → ((i j : ℕ) (old new : List (Option Range)) → G i j old new
    → new ≡ g i j old) → (p : Option Range) (old new : List (Option Range)) → OfPiece G p old new
    → new ≡ of_piece g p old
piece_is G g known None old new h = h
piece_is G g known (Some p) old new h = known p.q0 p.q1 old new h

-- ---- all trees

no_match : (a : Tree) (t : List ℕ) (i j : ℕ) → (Matches a t i j → ⊥) → matches a t i j ≡ false
no_match a t i j never = elim (cases_Bool (matches a t i j)) [
  | inl e ↦ absurd (never (matches_tell a t i j e))
  | inr e ↦ e
]

pub sets_are : (r : Tree) (t : List ℕ) (i j : ℕ) (old new : List (Option Range)) → Sets r t i j old new
    → new ≡ sets r t i j old
sets_are (Letter c) t i j old new h = h
sets_are AnyLetter t i j old new h = h
sets_are (OneOf negated spans) t i j old new h = h
sets_are LineStart t i j old new h = h
sets_are LineEnd t i j old new h = h
sets_are (Then a b) t i j old new h =
    let k = h.0 in
    sets_are b t k j h.1 new h.4
    ∙ ap (sets b t k j) (sets_are a t i k old h.1 h.3)
    ∙ sym (ap (at_seam old (λ k. sets b t k j (sets a t i k old))) (seam_is a b t 0 i j k h.2))
sets_are (Either a b) t i j old new h = elim h [
  | inl x ↦ sets_are a t i j old new x.1 ∙ sym (ap (λ (c : Bool). cond c (sets a t i j old) (sets b t i j old))
      (matches_from a t i j x.0))
  | inr y ↦ sets_are b t i j old new y.1 ∙ sym (ap (λ (c : Bool). cond c (sets a t i j old) (sets b t i j old))
      (no_match a t i j y.0))
]
sets_are (Many a) t i j old new h =
    piece_is (Sets a t) (sets a t) (sets_are a t) h.1 old new h.3
    ∙ ap (λ (p : Option Range). of_piece (sets a t) p old) (walk_is a t h.0 (j - i) i j None h.1 (omega arith) h.2)
sets_are (Several a) t i j old new h =
    let last = h.0 in
    let k = h.1.0 in
    sets_are a t last.q0 last.q1 old new h.2
    ∙ ap (λ (p : Option Range). of_piece (sets a t) p old) (walk_is a t h.1.1 (j - k) k j (Some (span i k)) (Some last)
    (omega arith) h.1.3)
    ∙ sym (ap (at_seam old (λ k. of_piece (sets a t) (last_piece (matches a t) (j - k) k j (Some (span i k))) old))
    (seam_is a (Many a) t 0 i j k h.1.2))
sets_are (Maybe a) t i j old new h = elim h [
  | inl x ↦ sets_are a t i j old new x.1 ∙ sym (ap (λ (c : Bool). cond c (sets a t i j old) old)
      (matches_from a t i j x.0))
  | inr y ↦ y.1 ∙ sym (ap (λ (c : Bool). cond c (sets a t i j old) old) (no_match a t i j y.0))
]
sets_are (Group n a) t i j old new h = h.2 ∙ ap (λ (mid : List (Option Range)). slice_set mid n (Some (span i j)))
    (sets_are a t i j old h.0 h.1)

pub groups_are : (r : Tree) (t : List ℕ) (s : Range) (all : List (Option Range)) → AreGroups r t s all
    → all ≡ groups_of r t s
unfolding groups_of
groups_are r t s all h = h.2 ∙ ap (λ (l : List (Option Range)). slice_set l 0 (Some s))
    (sets_are r t s.q0 s.q1 (replicate 10 None) h.0 h.1)
