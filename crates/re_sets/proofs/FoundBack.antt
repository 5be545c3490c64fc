-- A search backward by tables finds the match that is chosen.
use Rattle.std.proofs.Common.{◌≡◌, ℕ, ◌+◌, ◌-◌, ◌<◌, ◌≤◌, ◌⊎◌, Bool, true, false, List, [], length, Option, Some, None}
use Rattle.std.proofs.Common.{refl, sym, subst, inl, inr, arith}
use Rattle.std.specs.Prelude.{IsTrue, ◌↔◌, IfSome, IfNone, nat_le, if◌then◌else◌}
use Rattle.std.proofs.lemmas.Bool.Decides.{nat_tests}
use Rattle.re_syntax.specs.Tree.{Tree}
use Rattle.re_syntax.specs.Match.{Matches, IsSpan, IsLast, HasNoSpan}
use Rattle.am_text.specs.declared.range.Range.{Range}
use Rattle.re_sets.specs.Readings.{Spans, backward, mirrored}
use Rattle.re_sets.specs.Rows.{search, Finds, IsBest}
use Rattle.re_sets.specs.Tables.{Table, IsTable, text_of}
use Rattle.re_sets.specs.Numbers.{Leads}
use Rattle.re_sets.specs.Words.{on}
use Rattle.re_sets.specs.Laws.{LeftOut}
use Rattle.re_sets.specs.Searches.{BackFinds, from_end, range_from_end, found_from_end, back}
use Rattle.re_sets.proofs.Going.{Spans-on}
use Rattle.re_sets.proofs.Mirrored.{backward_is, Matches-on}
use Rattle.re_sets.proofs.Rowing.{search_is}
use Rattle.re_sets.proofs.Telling.{tells}

some_same : (p q : ℕ) → Some p ≡ Some q → p ≡ q
some_same p q e = cc e

-- what is left out in the one count is left out in the other
out_there : (count : ℕ) (o : Option ℕ) (i : ℕ) → i ≤ count → from_end count o ≡ Some (count - i) → o ≡ Some i
out_there count None i l e = absurd (cc e)
out_there count (Some p) i l e = go (nat_le p count) refl e
  where
    go : (b : Bool) → nat_le p count ≡ b → (if b then Some (count - p) else None) ≡ Some (count - i) → Some p ≡ Some i
    go true h g =
        let s : count - p ≡ count - i = some_same (count - p) (count - i) g in
        let q : p ≤ count = grind (arith, nat_tests, h) in
        let same : p ≡ i = omega (arith, s, q, l) in
        subst (λ (z : ℕ). Some p ≡ Some z) same refl
    go false h g = absurd (cc g)

out_here : (count : ℕ) (o : Option ℕ) (i : ℕ) → i ≤ count → o ≡ Some i → from_end count o ≡ Some (count - i)
out_here count None i l e = absurd (cc e)
out_here count (Some p) i l e = go (nat_le p count) refl
  where
    same : p ≡ i
    same = some_same p i e

    go : (b : Bool) → nat_le p count ≡ b → (if b then Some (count - p) else None) ≡ Some (count - i)
    go true h = subst (λ (z : ℕ). Some (count - p) ≡ Some (count - z)) same refl
    go false h = absurd (grind (arith, nat_tests, h, l, same))

module _ (r : Tree) (text : List ℕ) (no_null : Option ℕ) (start to : ℕ) (order : start ≤ to) (within : to ≤ length text)
  where
    abbrev pub count : ℕ
    count = length text

    abbrev pub Found : Option Range → Type 0
    Found o = Finds (Spans (mirrored r) (backward text)) (LeftOut (from_end count no_null))
        (λ x k j. Leads (mirrored r) (backward text) (on x) k j) (count - to) (count - start) o

    -- a span, counted from the end
    there : (i j : ℕ) → IsSpan r text start to no_null i j → (i ≤ j) × (count - to ≤ count - j)
        × (count - i ≤ count - start) × Spans (mirrored r) (backward text) (count - j) (count - i)
        × (LeftOut (from_end count no_null) (count - j) (count - i) → ⊥)
    there i j s =
        let on : i ≤ j = Matches-on r text i j s.matches in (
          on,
          omega (arith, s.below),
          omega (arith, s.above),
          (backward_is r text i j (omega (arith, on, s.below, within)) (omega (arith, s.below, within))).0 s.matches,
          λ a.
              let e : i ≡ j = omega (arith, a.0, on, s.below, within) in
              s.allowed e (out_there count no_null i (omega (arith, on, s.below, within))
              (subst (λ (z : ℕ). from_end count no_null ≡ Some (count - z)) (sym e) a.1)),
        )

    pub some_is : (o : Option Range) → Found o → IfSome (found_from_end count o) (IsLast r text start to no_null)
    some_is None f = tt
    some_is (Some b) f =
        let on : b.q0 ≤ b.q1 = Spans-on (mirrored r) (backward text) b.q0 b.q1 f.span in
        let a : count - (count - b.q0) ≡ b.q0 = omega (arith, on, f.below) in
        let c : count - (count - b.q1) ≡ b.q1 = omega (arith, f.below) in
        record {
          span = record {
            above = omega (arith, f.below, order, within);
            below = omega (arith, f.above, within);
            matches = (backward_is r text (count - b.q1) (count - b.q0) (omega arith) (omega arith)).1
                (subst (λ (z : ℕ). Spans (mirrored r) (backward text) z (count - (count - b.q1))) (sym a)
                (subst (λ (z : ℕ). Spans (mirrored r) (backward text) b.q0 z) (sym c) f.span));
            allowed = λ e n.
                let same : b.q0 ≡ b.q1 = omega (arith, e, a, c) in
                f.allowed (
                  same,
                  subst (λ (z : ℕ). from_end count no_null ≡ Some z)
                      (let s : count - (count - b.q1) ≡ b.q0 = omega (arith, c, same) in s)
                      (out_here count no_null (count - b.q1) (omega arith) n),
                );
          };
          greatest = λ i j s.
              let x = there i j s in
              elim (f.least (count - j) (count - i) x.1 x.2 x.3 x.4)
              [ inl y ↦ omega (arith, y) | inr y ↦ omega (arith, y.0, s.below, within) ];
          longest = λ i s.
              let x = there i (count - b.q0) s in
              elim (f.least (count - (count - b.q0)) (count - i) x.1 x.2 x.3 x.4)
              [ inl y ↦ absurd (omega (arith, y, a)) | inr y ↦ omega (arith, y.1, x.0) ];
        }

    pub none_is : (o : Option Range) → Found o → IfNone (found_from_end count o) (HasNoSpan r text start to no_null)
    none_is None f = λ i j s. let x = there i j s in f (count - j) (count - i) x.1 x.2 x.3 x.4
    none_is (Some b) f = tt

pub back_finds : BackFinds
back_finds r t text no_null start to order within is =
    let count = length text in
    let out = from_end count no_null in
    let found = search (text_of t (backward text) out) (to - start) (count - to) [] None in
    let e : count - to + (to - start) ≡ count - start = omega (arith, order, within) in
    let f = subst (λ (z : ℕ). Finds (Spans (mirrored r) (backward text)) (LeftOut out)
    (λ x k j. Leads (mirrored r) (backward text) (on x) k j) (count - to) z found) e
    (search_is (Spans (mirrored r) (backward text)) (LeftOut out)
    (λ x k j. Leads (mirrored r) (backward text) (on x) k j) (count - to) (text_of t (backward text) out)
    (tells (mirrored r) t (backward text) out (count - to) is) (to - start)) in
    (some_is r text no_null start to order within found f, none_is r text no_null start to order within found f)
