-- A search by tables finds the match that is chosen.
use Rattle.std.proofs.Common.{◌≡◌, ℕ, ◌+◌, ◌<◌, ◌≤◌, ◌⊎◌, List, [], Option, Some, None, refl, sym, subst, inl, inr}
use Rattle.std.proofs.Common.{arith}
use Rattle.std.specs.Prelude.{IsTrue, ◌↔◌, IfSome, IfNone}
use Rattle.re_syntax.specs.Tree.{Tree}
use Rattle.re_syntax.specs.Match.{Matches, IsSpan, IsFirst, HasNoSpan}
use Rattle.am_text.specs.declared.range.Range.{Range}
use Rattle.re_sets.specs.Readings.{Spans, forward}
use Rattle.re_sets.specs.Rows.{search, Finds, IsBest}
use Rattle.re_sets.specs.Tables.{Table, IsTable, text_of}
use Rattle.re_sets.specs.Numbers.{Leads}
use Rattle.re_sets.specs.Words.{on}
use Rattle.re_sets.specs.Laws.{LeftOut}
use Rattle.re_sets.specs.Searches.{SearchFinds}
use Rattle.re_sets.proofs.Mirrored.{forward_is}
use Rattle.re_sets.proofs.Rowing.{search_is}
use Rattle.re_sets.proofs.Telling.{tells}

module _ (r : Tree) (text : List ℕ) (no_null : Option ℕ) (low high : ℕ) where
  pub some_is : (o : Option Range) → Finds (Spans r (forward text)) (LeftOut no_null)
      (λ x k j. Leads r (forward text) (on x) k j) low high o → IfSome o (IsFirst r text low high no_null)
  some_is None f = tt
  some_is (Some b) f = record {
    span = record {
      above = f.above;
      below = f.below;
      matches = (forward_is r text b.q0 b.q1).1 f.span;
      allowed = λ e n. f.allowed (e, subst (λ (z : Option ℕ). z ≡ Some b.q0) refl n);
    };
    least = λ i j s. elim (f.least i j s.above s.below ((forward_is r text i j).0 s.matches) (λ a. s.allowed a.0 a.1))
        [ inl x ↦ omega (arith, x) | inr y ↦ omega (arith, y.0) ];
    longest = λ j s. elim (f.least b.q0 j s.above s.below ((forward_is r text b.q0 j).0 s.matches)
        (λ a. s.allowed a.0 a.1)) [ inl x ↦ absurd (omega (arith, x)) | inr y ↦ y.1 ];
  }

  pub none_is : (o : Option Range) → Finds (Spans r (forward text)) (LeftOut no_null)
      (λ x k j. Leads r (forward text) (on x) k j) low high o → IfNone o (HasNoSpan r text low high no_null)
  none_is None f = λ i j s. f i j s.above s.below ((forward_is r text i j).0 s.matches) (λ a. s.allowed a.0 a.1)
  none_is (Some b) f = tt

pub search_finds : SearchFinds
search_finds r t text no_null low n is =
    let found = search (text_of t (forward text) no_null) n low [] None in
    let f = search_is (Spans r (forward text)) (LeftOut no_null) (λ x k j. Leads r (forward text) (on x) k j) low
    (text_of t (forward text) no_null) (tells r t (forward text) no_null low is) n in
    (some_is r text no_null low (low + n) found f, none_is r text no_null low (low + n) found f)
