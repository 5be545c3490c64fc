-- The search finds the match that is chosen, and no other.
use Rattle.std.proofs.Common.{◌≡◌, ℕ, ◌+◌, ◌-◌, ◌&&◌, true, false, not, List, Option, Some, None, refl, sym, ap, subst}
use Rattle.std.proofs.Common.{◌∙◌, inl, inr, arith, is_some}
use Rattle.std.specs.Prelude.{◌==◌, IfSome, IfNone}
use Rattle.std.proofs.lemmas.Bool.{and_parts, and_from, both_ways, not-true, not_from_false, eqb-true, eq-eqb}
use Rattle.std.proofs.lemmas.Bool.{cases_Bool, cases_lt}
use Rattle.std.proofs.lemmas.Option.{IfSome_then}
use Rattle.am_text.specs.declared.range.Range.{Range}
use Rattle.re_syntax.specs.Tree.{Tree}
use Rattle.re_syntax.specs.Match.{Matches, IsSpan, IsFirst, IsLast, HasNoSpan}
use Rattle.re_spans.proofs.Ways.{Matches-on}
use Rattle.re_spans.specs.Search.{least, greatest, matches, is_left_out, is_taken, longest_end, longest_start, range_of}
use Rattle.re_spans.specs.Search.{and_then, first_span, last_span}
use Rattle.re_spans.specs.Search.{IsBetween}
use Rattle.re_spans.proofs.Least.{IsLeast, IsGreatest, least_is, least_finds, greatest_is, greatest_finds}
use Rattle.re_spans.proofs.Tested.{matches_tell, matches_from}

-- ---- one match

pub record IsMatch (r : Tree) (t : List ℕ) (no_null : Option ℕ) (i j : ℕ) : Type 0 where
  pub span : Matches r t i j
  pub allowed : i ≡ j → no_null ≡ Some i → ⊥

left_out : (no_null : Option ℕ) (i j : ℕ) → is_left_out no_null i j ≡ false → i ≡ j → no_null ≡ Some i → ⊥
left_out no_null i j e same at =
    let there : is_left_out (Some i) i j ≡ true = and_from (i == i) (j == i) (eq-eqb i i refl)
    (eq-eqb j i (sym same)) in
    both_ways (is_left_out no_null i j) e (subst (λ x. is_left_out x i j ≡ true) (sym at) there)

kept_in : (no_null : Option ℕ) (i j : ℕ) → (i ≡ j → no_null ≡ Some i → ⊥) → is_left_out no_null i j ≡ false
kept_in None i j allowed = refl
kept_in (Some p) i j allowed = elim (cases_Bool ((i == p) && (j == p))) [
  | inl e ↦
      let both = and_parts (i == p) (j == p) e in
      absurd (allowed (eqb-true i p both.0 ∙ sym (eqb-true j p both.1))
      (ap (λ (x : ℕ). Some x) (sym (eqb-true i p both.0))))
  | inr e ↦ e
]

taken_tells : (r : Tree) (t : List ℕ) (no_null : Option ℕ) (i j : ℕ)
    → is_taken r t no_null i j ≡ true → IsMatch r t no_null i j
taken_tells r t no_null i j e =
    let both = and_parts (matches r t i j) (not (is_left_out no_null i j)) e in
    record {
      span = matches_tell r t i j both.0;
      allowed = left_out no_null i j
          (not-true (is_left_out no_null i j) both.1);
    }

taken_from : (r : Tree) (t : List ℕ) (no_null : Option ℕ) (i j : ℕ) → Matches r t i j → (i ≡ j → no_null ≡ Some i → ⊥)
    → is_taken r t no_null i j ≡ true
taken_from r t no_null i j m allowed =
    and_from (matches r t i j) (not (is_left_out no_null i j)) (matches_from r t i j m)
    (not_from_false (is_left_out no_null i j) (kept_in no_null i j allowed))

-- ---- the first

has_end : (r : Tree) (t : List ℕ) (low high : ℕ) (no_null : Option ℕ) (i j : ℕ) → IsSpan r t low high no_null i j
    → is_some (longest_end r t high no_null i) ≡ true
has_end r t low high no_null i j s =
    let on = Matches-on r t i j s.matches in
    greatest_finds (is_taken r t no_null i) i (high + 1 - i) j on (omega (arith, on, s.below))
    (taken_from r t no_null i j s.matches s.allowed)

first_with : (r : Tree) (t : List ℕ) (low high : ℕ) (no_null : Option ℕ) (i : ℕ) (e : Option ℕ)
    → IsLeast (λ i. is_some (longest_end r t high no_null i)) low (high + 1 - low) i
    → IfSome e (IsGreatest (is_taken r t no_null i) i (high + 1 - i))
    → IfSome (range_of (Some i) e) (IsFirst r t low high no_null)
first_with r t low high no_null i None begins ends = tt
first_with r t low high no_null i (Some j) begins ends =
    let m = taken_tells r t no_null i j ends.passes in
    record {
      span = record {
        above = begins.above;
        below = omega (arith, ends.below, begins.below, begins.above);
        matches =
            m.span;
        allowed = m.allowed;
      };
      least = λ k l s. elim (cases_lt k i) [
        | inl early ↦ absurd (both_ways (is_some (longest_end r t high no_null k)) (begins.before k s.above early)
            (has_end r t low high no_null k l s))
        | inr late ↦ late
      ];
      longest = λ l s. elim (cases_lt j l) [
        | inl far ↦ absurd (both_ways (is_taken r t no_null i l) (ends.behind l far
            (omega (arith, s.below, begins.below, begins.above, Matches-on r t i l s.matches)))
            (taken_from r t no_null i l s.matches s.allowed))
        | inr near ↦ near
      ];
    }

first_at : (r : Tree) (t : List ℕ) (low high : ℕ) (no_null : Option ℕ) (b : Option ℕ)
    → IfSome b (IsLeast (λ i. is_some (longest_end r t high no_null i)) low (high + 1 - low))
    → IfSome (range_of b (and_then b (longest_end r t high no_null))) (IsFirst r t low high no_null)
first_at r t low high no_null None h = tt
first_at r t low high no_null (Some i) h = first_with r t low high no_null i (longest_end r t high no_null i) h
    (greatest_is (is_taken r t no_null i) i (high + 1 - i))

pub first_is : (r : Tree) (t : List ℕ) (low high : ℕ) (no_null : Option ℕ)
    → IfSome (first_span r t low high no_null) (IsFirst r t low high no_null)
unfolding first_span
first_is r t low high no_null =
    first_at r t low high no_null (least (λ i. is_some (longest_end r t high no_null i)) low (high + 1 - low))
    (least_is (λ i. is_some (longest_end r t high no_null i)) low (high + 1 - low))

none_with : (Q : Type 0) (i : ℕ) (e : Option ℕ) → is_some e ≡ true → IfNone (range_of (Some i) e) Q
none_with Q i None f = absurd (both_ways false refl f)
none_with Q i (Some j) f = tt

first_none_at : (r : Tree) (t : List ℕ) (low high : ℕ) (no_null : Option ℕ) (b : Option ℕ)
    → b ≡ least (λ i. is_some (longest_end r t high no_null i)) low (high + 1 - low)
    → IfSome b (IsLeast (λ i. is_some (longest_end r t high no_null i)) low (high + 1 - low))
    → IfNone (range_of b (and_then b (longest_end r t high no_null))) (HasNoSpan r t low high no_null)
first_none_at r t low high no_null None e h = λ i j s.
    both_ways (is_some (least (λ i. is_some (longest_end r t high no_null i)) low (high + 1 - low)))
    (ap is_some (sym e)) (least_finds (λ i. is_some (longest_end r t high no_null i)) low (high + 1 - low) i s.above
    (omega (arith, s.below, s.above, Matches-on r t i j s.matches)) (has_end r t low high no_null i j s))
first_none_at r t low high no_null (Some i) e h = none_with (HasNoSpan r t low high no_null) i
    (longest_end r t high no_null i) h.passes

pub first_none : (r : Tree) (t : List ℕ) (low high : ℕ) (no_null : Option ℕ)
    → IfNone (first_span r t low high no_null) (HasNoSpan r t low high no_null)
unfolding first_span
first_none r t low high no_null =
    first_none_at r t low high no_null (least (λ i. is_some (longest_end r t high no_null i)) low (high + 1 - low)) refl
    (least_is (λ i. is_some (longest_end r t high no_null i)) low (high + 1 - low))

-- ---- the last

has_start : (r : Tree) (t : List ℕ) (low high : ℕ) (no_null : Option ℕ) (i j : ℕ) → IsSpan r t low high no_null i j
    → is_some (longest_start r t low no_null j) ≡ true
has_start r t low high no_null i j s =
    let on = Matches-on r t i j s.matches in
    least_finds (λ k. is_taken r t no_null k j) low (j + 1 - low) i s.above (omega (arith, on, s.above))
    (taken_from r t no_null i j s.matches s.allowed)

last_with : (r : Tree) (t : List ℕ) (low high : ℕ) (no_null : Option ℕ) (j : ℕ) (b : Option ℕ)
    → IsGreatest (λ j. is_some (longest_start r t low no_null j)) low (high + 1 - low) j
    → IfSome b (IsLeast (λ k. is_taken r t no_null k j) low (j + 1 - low))
    → IfSome (range_of b (Some j)) (IsLast r t low high no_null)
last_with r t low high no_null j None ends begins = tt
last_with r t low high no_null j (Some i) ends begins =
    let m = taken_tells r t no_null i j begins.passes in
    record {
      span = record {
        above = begins.above;
        below = omega (arith, ends.below, ends.above);
        matches = m.span;
        allowed =
            m.allowed;
      };
      greatest = λ k l s. elim (cases_lt j l) [
        | inl late ↦ absurd (both_ways (is_some (longest_start r t low no_null l))
            (ends.behind l late (omega (arith, s.below, ends.below, ends.above)))
            (has_start r t low high no_null k l s))
        | inr early ↦ early
      ];
      longest = λ k s. elim (cases_lt k i) [
        | inl far ↦ absurd (both_ways (is_taken r t no_null k j) (begins.before k s.above far)
            (taken_from r t no_null k j s.matches s.allowed))
        | inr near ↦ near
      ];
    }

last_at : (r : Tree) (t : List ℕ) (low high : ℕ) (no_null : Option ℕ) (e : Option ℕ)
    → IfSome e (IsGreatest (λ j. is_some (longest_start r t low no_null j)) low (high + 1 - low))
    → IfSome (range_of (and_then e (longest_start r t low no_null)) e) (IsLast r t low high no_null)
last_at r t low high no_null None h = tt
last_at r t low high no_null (Some j) h = last_with r t low high no_null j (longest_start r t low no_null j) h
    (least_is (λ k. is_taken r t no_null k j) low (j + 1 - low))

pub last_is : (r : Tree) (t : List ℕ) (low high : ℕ) (no_null : Option ℕ)
    → IfSome (last_span r t low high no_null) (IsLast r t low high no_null)
unfolding last_span
last_is r t low high no_null =
    last_at r t low high no_null (greatest (λ j. is_some (longest_start r t low no_null j)) low (high + 1 - low))
    (greatest_is (λ j. is_some (longest_start r t low no_null j)) low (high + 1 - low))

none_to : (Q : Type 0) (j : ℕ) (b : Option ℕ) → is_some b ≡ true → IfNone (range_of b (Some j)) Q
none_to Q j None f = absurd (both_ways false refl f)
none_to Q j (Some i) f = tt

last_none_at : (r : Tree) (t : List ℕ) (low high : ℕ) (no_null : Option ℕ) (e : Option ℕ)
    → e ≡ greatest (λ j. is_some (longest_start r t low no_null j)) low (high + 1 - low)
    → IfSome e (IsGreatest (λ j. is_some (longest_start r t low no_null j)) low (high + 1 - low))
    → IfNone (range_of (and_then e (longest_start r t low no_null)) e) (HasNoSpan r t low high no_null)
last_none_at r t low high no_null None e h = λ i j s.
    both_ways (is_some (greatest (λ j. is_some (longest_start r t low no_null j)) low (high + 1 - low)))
    (ap is_some (sym e)) (greatest_finds (λ j. is_some (longest_start r t low no_null j)) low (high + 1 - low) j
    (omega (arith, s.above, Matches-on r t i j s.matches)) (omega (
      arith,
      s.below,
      s.above,
      Matches-on r t i j s.matches,
    )) (has_start r t low high no_null i j s))
last_none_at r t low high no_null (Some j) e h = none_to (HasNoSpan r t low high no_null) j
    (longest_start r t low no_null j) h.passes

pub last_none : (r : Tree) (t : List ℕ) (low high : ℕ) (no_null : Option ℕ)
    → IfNone (last_span r t low high no_null) (HasNoSpan r t low high no_null)
unfolding last_span
last_none r t low high no_null =
    last_none_at r t low high no_null (greatest (λ j. is_some (longest_start r t low no_null j)) low (high + 1 - low))
    refl (greatest_is (λ j. is_some (longest_start r t low no_null j)) low (high + 1 - low))

-- ---- no other is chosen

pub same_range : (x y : Range) → x.q0 ≡ y.q0 → x.q1 ≡ y.q1 → x ≡ y
same_range x y e f = ap (λ (a : ℕ). let r : Range = record { q0 = a; q1 = x.q1 } in r) e
    ∙ ap (λ (b : ℕ). let r : Range = record { q0 = y.q0; q1 = b } in r) f

first_once : (r : Tree) (t : List ℕ) (low high : ℕ) (no_null : Option ℕ) (x y : Range) → IsFirst r t low high no_null x
    → IsFirst r t low high no_null y → x ≡ y
first_once r t low high no_null x y f g =
    let starts : x.q0 ≡ y.q0 = omega (arith, f.least y.q0 y.q1 g.span, g.least x.q0 x.q1 f.span) in
    let there : IsSpan r t low high no_null y.q0 x.q1 = subst (λ k. IsSpan r t low high no_null k x.q1) starts f.span in
    let here : IsSpan r t low high no_null x.q0 y.q1 = subst (λ k. IsSpan r t low high no_null k y.q1) (sym starts)
    g.span in
    same_range x y starts (omega (arith, f.longest y.q1 here, g.longest x.q1 there))

last_once : (r : Tree) (t : List ℕ) (low high : ℕ) (no_null : Option ℕ) (x y : Range) → IsLast r t low high no_null x
    → IsLast r t low high no_null y → x ≡ y
last_once r t low high no_null x y f g =
    let ends : x.q1 ≡ y.q1 = omega (arith, f.greatest y.q0 y.q1 g.span, g.greatest x.q0 x.q1 f.span) in
    let there : IsSpan r t low high no_null x.q0 y.q1 = subst (λ k. IsSpan r t low high no_null x.q0 k) ends f.span in
    let here : IsSpan r t low high no_null y.q0 x.q1 = subst (λ k. IsSpan r t low high no_null y.q0 k) (sym ends)
    g.span in
    same_range x y (omega (arith, f.longest y.q0 here, g.longest x.q0 there)) ends

pub same_choice : {P : Range → Type 0} {Q : Type 0} → ((x y : Range) → P x → P y → x ≡ y) → ((x : Range) → P x → Q → ⊥)
    → (o d : Option Range) → IfSome o P → IfNone o Q → IfSome d P → IfNone d Q → o ≡ d
same_choice once not_none None None a b c e = refl
same_choice once not_none None (Some y) a b c e = absurd (not_none y c b)
same_choice once not_none (Some x) None a b c e = absurd (not_none x a e)
same_choice once not_none (Some x) (Some y) a b c e = ap (λ (r : Range). Some r) (once x y a c)

pub found_first : (r : Tree) (t : List ℕ) (low high : ℕ) (no_null : Option ℕ) (found : Option Range)
    → IfSome found (IsFirst r t low high no_null) → IfNone found (HasNoSpan r t low high no_null)
    → found ≡ first_span r t low high no_null
found_first r t low high no_null found some none =
    same_choice (first_once r t low high no_null) (λ x f no. no x.q0 x.q1 f.span) found
    (first_span r t low high no_null) some none (first_is r t low high no_null) (first_none r t low high no_null)

pub found_last : (r : Tree) (t : List ℕ) (low high : ℕ) (no_null : Option ℕ) (found : Option Range)
    → IfSome found (IsLast r t low high no_null) → IfNone found (HasNoSpan r t low high no_null)
    → found ≡ last_span r t low high no_null
found_last r t low high no_null found some none =
    same_choice (last_once r t low high no_null) (λ x f no. no x.q0 x.q1 f.span) found (last_span r t low high no_null)
    some none (last_is r t low high no_null) (last_none r t low high no_null)

pub first_between : (r : Tree) (t : List ℕ) (low high : ℕ) (no_null : Option ℕ) (x : Range)
    → IsFirst r t low high no_null x → IsBetween low high x
first_between r t low high no_null x f = record {
  above = f.span.above;
  order = Matches-on r t x.q0 x.q1 f.span.matches;
  below = f.span.below;
}

last_between : (r : Tree) (t : List ℕ) (low high : ℕ) (no_null : Option ℕ) (x : Range) → IsLast r t low high no_null x
    → IsBetween low high x
last_between r t low high no_null x f = record {
  above = f.span.above;
  order = Matches-on r t x.q0 x.q1 f.span.matches;
  below = f.span.below;
}

pub firsts_between : (r : Tree) (t : List ℕ) (low high : ℕ) (no_null : Option ℕ) (found : Option Range)
    → IfSome found (IsFirst r t low high no_null) → IfSome found (IsBetween low high)
firsts_between r t low high no_null found h = IfSome_then found h (first_between r t low high no_null)

pub lasts_between : (r : Tree) (t : List ℕ) (low high : ℕ) (no_null : Option ℕ) (found : Option Range)
    → IfSome found (IsLast r t low high no_null) → IfSome found (IsBetween low high)
lasts_between r t low high no_null found h = IfSome_then found h (last_between r t low high no_null)
