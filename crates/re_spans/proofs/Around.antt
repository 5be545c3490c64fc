-- The match that has a place.
use Rattle.std.proofs.Common.{◌≡◌, ℕ, ◌+◌, ◌-◌, ◌<◌, ◌≤◌, ◌&&◌, true, false, List, length, Option, Some, None, refl}
use Rattle.std.proofs.Common.{sym, ap, subst, inl, inr, arith, is_some}
use Rattle.std.specs.Prelude.{IsTrue, ◌↔◌, IfSome, IfNone, nat_lt}
use Rattle.std.proofs.lemmas.Bool.{and_parts, and_from, both_ways, ltb-true, lt-ltb, cases_lt}
use Rattle.am_text.specs.declared.range.Range.{Range}
use Rattle.re_syntax.specs.Tree.{Tree}
use Rattle.re_syntax.specs.Match.{Matches}
use Rattle.re_spans.specs.Places.{Cells, past, has}
use Rattle.re_spans.specs.Reached.{AreReached}
use Rattle.re_spans.specs.Choice.{IsAllowed, IsLongestFrom}
use Rattle.re_spans.specs.Search.{least, matches, range_of, and_then}
use Rattle.re_spans.specs.Over.{IsOver, IsFirstOver, HasNoneOver, StartsOver, end_over, match_over}
use Rattle.re_spans.specs.declared.way.Way.TheVariants.{Back}
use Rattle.re_spans.proofs.Ways.{Matches-on}
use Rattle.re_spans.proofs.Least.{IsLeast, IsGreatest, least_is, least_finds, greatest_is, greatest_finds}
use Rattle.re_spans.proofs.Tested.{matches_tell, matches_from}
use Rattle.re_spans.proofs.Chosen.{same_range, same_choice}

-- ---- where such matches begin

pub all_over : (r : Tree) (t : List ℕ) (at : ℕ) (ends starts : Cells) → ends.low ≡ 0 → past ends ≡ length t + 1
    → ((j : ℕ) → 0 ≤ j → j ≤ length t → IsTrue (has ends j) ↔ (at ≤ j)) → AreReached Back (Matches r t) ends starts
    → StartsOver r t at starts
all_over r t at ends starts low high tells reached i j o =
    (reached i (omega (arith, low)) (omega (arith, high, o.not_null, o.within))).1
    (j, (tells j (omega arith) o.within).1 o.after, o.matches)

-- ---- the longest of them from a place on

pub longest_over_is : (r : Tree) (t : List ℕ) (at i j : ℕ) → i ≤ at → at ≤ j
    → IsLongestFrom (Matches r t) i (length t) (Some i) j → IsOver r t at i j × ((k : ℕ) → IsOver r t at i k → k ≤ j)
longest_over_is r t at i j before after l = (
  record {
    before = before;
    after = after;
    within = l.below;
    not_null = elim (cases_lt i j) [
      | inl x ↦ x
      | inr y ↦ absurd (l.allowed (omega (arith, y, Matches-on r t i j l.span))
          refl)
    ];
    matches = l.span;
  },
  λ k o. l.longest k o.within o.matches (λ e h. omega (arith, e, o.not_null)),
)

pub too_short : (r : Tree) (t : List ℕ) (at i j : ℕ) → j < at → IsLongestFrom (Matches r t) i (length t) (Some i) j
    → (k : ℕ) → IsOver r t at i k → ⊥
too_short r t at i j short l k o = omega (
  arith,
  short,
  o.after,
  l.longest k o.within
      o.matches (λ e h. omega (arith, e, o.not_null)),
)

pub none_long : (r : Tree) (t : List ℕ) (at i : ℕ) → ((k : ℕ) → k ≤ length t → Matches r t i k → IsAllowed (Some i) i k
    → ⊥) → (k : ℕ) → IsOver r t at i k → ⊥
none_long r t at i none k o = none k o.within o.matches (λ e h. omega (arith, e, o.not_null))

-- ---- the first of them

pub first_over_is : (r : Tree) (t : List ℕ) (at i j : ℕ) → IsOver r t at i j → ((k : ℕ) → IsOver r t at i k → k ≤ j)
    → ((k m : ℕ) → k < i → IsOver r t at k m → ⊥) → IsFirstOver r t at (record { q0 = i; q1 = j })
first_over_is r t at i j o longest none = record {
  over = o;
  least = λ k m x. elim (cases_lt k i) [ inl l ↦ absurd (none k m l x) | inr l ↦ l ];
  longest = longest;
}

pub no_more_over : (r : Tree) (t : List ℕ) (at i : ℕ) → ((k m : ℕ) → k < i → IsOver r t at k m → ⊥)
    → ((m : ℕ) → IsOver r t at i m → ⊥) → (k m : ℕ) → k < i + 1 → IsOver r t at k m → ⊥
no_more_over r t at i before here k m l o = elim (cases_lt k i) [
  | inl x ↦ before k m x o
  | inr y ↦ let e : k ≡ i = omega (arith, l, y) in here m (subst (λ (x : ℕ). IsOver r t at x m) e o)
]

pub none_starts : (r : Tree) (t : List ℕ) (at : ℕ) (s : Cells) → StartsOver r t at s → (i : ℕ)
    → has s i ≡ false → (m : ℕ) → IsOver r t at i m → ⊥
none_starts r t at s starts i none m o = both_ways (has s i) none (starts i m o)

-- ---- the value

over_end : (r : Tree) (t : List ℕ) (at i j : ℕ) → IsOver r t at i j → is_some (end_over r t at i) ≡ true
over_end r t at i j o =
    greatest_finds (λ k. nat_lt i k && matches r t i k) at (length t + 1 - at) j o.after
    (omega (arith, o.after, o.within)) (and_from (nat_lt i j) (matches r t i j) (lt-ltb i j o.not_null)
    (matches_from r t i j o.matches))

over_with : (r : Tree) (t : List ℕ) (at i : ℕ) (e : Option ℕ) → IsLeast (λ i. is_some (end_over r t at i)) 0 (at + 1) i
    → IfSome e (IsGreatest (λ j. nat_lt i j && matches r t i j) at (length t + 1 - at))
    → IfSome (range_of (Some i) e) (IsFirstOver r t at)
over_with r t at i None begins ends = tt
over_with r t at i (Some j) begins ends =
    let both = and_parts (nat_lt i j) (matches r t i j) ends.passes in
    record {
      over = record {
        before = omega (arith, begins.below);
        after = ends.above;
        within = omega (arith, ends.below, ends.above);
        not_null = ltb-true i j both.0;
        matches = matches_tell r t i j both.1;
      };
      least = λ k m o. elim (cases_lt k i) [
        | inl early ↦ absurd (both_ways (is_some (end_over r t at k)) (begins.before k (omega arith) early)
            (over_end r t at k m o))
        | inr late ↦ late
      ];
      longest = λ m o. elim (cases_lt j m) [
        | inl far ↦ absurd (both_ways (nat_lt i m && matches r t i m)
            (ends.behind m far (omega (arith, o.within, o.after)))
            (and_from (nat_lt i m) (matches r t i m) (lt-ltb i m o.not_null) (matches_from r t i m o.matches)))
        | inr near ↦ near
      ];
    }

over_at : (r : Tree) (t : List ℕ) (at : ℕ) (b : Option ℕ) → IfSome b
    (IsLeast (λ i. is_some (end_over r t at i)) 0 (at + 1)) → IfSome (range_of b (and_then b (end_over r t at)))
    (IsFirstOver r t at)
over_at r t at None h = tt
over_at r t at (Some i) h = over_with r t at i (end_over r t at i) h
    (greatest_is (λ j. nat_lt i j && matches r t i j) at (length t + 1 - at))

pub over_is : (r : Tree) (t : List ℕ) (at : ℕ) → IfSome (match_over r t at) (IsFirstOver r t at)
unfolding match_over
over_is r t at = over_at r t at (least (λ i. is_some (end_over r t at i)) 0 (at + 1))
    (least_is (λ i. is_some (end_over r t at i)) 0 (at + 1))

ends_some : (Q : Type 0) (i : ℕ) (e : Option ℕ) → is_some e ≡ true → IfNone (range_of (Some i) e) Q
ends_some Q i None f = absurd (both_ways false refl f)
ends_some Q i (Some j) f = tt

over_none_at : (r : Tree) (t : List ℕ) (at : ℕ) (b : Option ℕ) → b ≡ least (λ i. is_some (end_over r t at i)) 0 (at + 1)
    → IfSome b (IsLeast (λ i. is_some (end_over r t at i)) 0 (at + 1))
    → IfNone (range_of b (and_then b (end_over r t at))) (HasNoneOver r t at)
over_none_at r t at None e h = λ i j o.
    both_ways (is_some (least (λ i. is_some (end_over r t at i)) 0 (at + 1))) (ap is_some (sym e))
    (least_finds (λ i. is_some (end_over r t at i)) 0 (at + 1) i (omega arith) (omega (arith, o.before))
    (over_end r t at i j o))
over_none_at r t at (Some i) e h = ends_some (HasNoneOver r t at) i (end_over r t at i) h.passes

pub over_none : (r : Tree) (t : List ℕ) (at : ℕ) → IfNone (match_over r t at) (HasNoneOver r t at)
unfolding match_over
over_none r t at = over_none_at r t at (least (λ i. is_some (end_over r t at i)) 0 (at + 1)) refl
    (least_is (λ i. is_some (end_over r t at i)) 0 (at + 1))

over_once : (r : Tree) (t : List ℕ) (at : ℕ) (x y : Range) → IsFirstOver r t at x → IsFirstOver r t at y → x ≡ y
over_once r t at x y f g =
    let starts : x.q0 ≡ y.q0 = omega (arith, f.least y.q0 y.q1 g.over, g.least x.q0 x.q1 f.over) in
    let there : IsOver r t at y.q0 x.q1 = subst (λ k. IsOver r t at k x.q1) starts f.over in
    let here : IsOver r t at x.q0 y.q1 = subst (λ k. IsOver r t at k y.q1) (sym starts) g.over in
    same_range x y starts (omega (arith, f.longest y.q1 here, g.longest x.q1 there))

pub found_over : (r : Tree) (t : List ℕ) (at : ℕ) (found : Option Range) → IfSome found (IsFirstOver r t at)
    → IfNone found (HasNoneOver r t at) → found ≡ match_over r t at
found_over r t at found some none =
    same_choice (over_once r t at) (λ x f no. no x.q0 x.q1 f.over) found (match_over r t at) some none (over_is r t at)
    (over_none r t at)
