-- A search goes through the places in turn.
use Rattle.std.proofs.Common.{◌≡◌, ◌≢◌, ℕ, ◌<◌, ◌≤◌, ◌+◌, ◌||◌, Bool, false, List, length, refl, sym, subst, ◌∙◌, inl}
use Rattle.std.proofs.Common.{inr, arith}
use Rattle.std.specs.Prelude.{IsTrue, ◌↔◌}
use Rattle.std.proofs.lemmas.Bool.{cases_lt}
use Rattle.re_syntax.specs.Tree.{Tree}
use Rattle.re_syntax.specs.Match.{Matches}
use Rattle.re_spans.specs.Places.{Cells, past, has, none_from, put_if}
use Rattle.re_spans.specs.Turns.{place_at, first}
use Rattle.re_spans.specs.Leaves.{here_at, read_at}
use Rattle.re_spans.specs.Reached.{Along, Reached, AreReached, so_many, enters, leaves}
use Rattle.re_spans.specs.Marks.{Marking, mark_of, fresh, step}
use Rattle.re_spans.specs.declared.way.Way.{Way}
use Rattle.re_spans.specs.declared.marks.Mark.{Mark}
use Rattle.re_spans.specs.declared.reach.Times.{Times}
use Rattle.re_spans.specs.declared.reach.Times.TheVariants.{Once, Often}
use Rattle.re_spans.proofs.Ways.{LeadsOn, Matches-on}
use Rattle.re_spans.proofs.Sets.{has_within, none_has, none_long, put_same, put_other, put_low, put_long}
use Rattle.re_spans.proofs.Orders.{Before, along_goes, turns_next, turns_lower, no_turn, first_fits, spot_inside}
use Rattle.re_spans.proofs.Orders.{spot_other, turn_of, first_is_first}
use Rattle.re_spans.proofs.Marking.{MarkIs, Again, trans, or_is, passes_is, again_enters, no_again}
use Rattle.re_spans.proofs.Stepping.{Holds, fresh_holds, stepped_holds}

-- where the tree is entered
abbrev pub EnteredAt : Way → Times → (ℕ → ℕ → Type 0) → Cells → ℕ → Type 0
EnteredAt way Once R from n = IsTrue (has from n)
EnteredAt way Often R from n = Again way R (λ k. IsTrue (has from k)) n

enters_is : (way : Way) (times : Times) (R : ℕ → ℕ → Type 0) (from : Cells) (n : ℕ) (k : Mark)
    → MarkIs way (Along way R) (EnteredAt way times R from) n k → IsTrue (enters times (has from n) k) ↔ EnteredAt way
    times R from n
enters_is way Once R from n k is = (λ h. h, λ h. h)
enters_is way Often R from n k is =
    trans (IsTrue (has from n || k.led)) _ (Again way R (λ x. IsTrue (has from x)) n)
    (or_is (has from n) k.led (IsTrue (has from n)) _ (λ h. h, λ h. h) is.is_led)
    (again_enters way R (λ x. IsTrue (has from x)) n)

leaves_is : (way : Way) (times : Times) (R : ℕ → ℕ → Type 0) (from : Cells) (n : ℕ) (k : Mark) (m : Bool) → LeadsOn R
    → MarkIs way (Along way R) (EnteredAt way times R from) n k → IsTrue m ↔ EnteredAt way times R from n
    → IsTrue (leaves times k m) ↔ Reached way (so_many times R) from n
leaves_is way Once R from n k m on is e = passes_is way (Along way R) (λ x. IsTrue (has from x)) n k m
    (along_goes way R on) is e
leaves_is way Often R from n k m on is e = e

module _ (way : Way) (times : Times) (r : Tree) (t : List ℕ) (from : Cells) where
  -- the place of a turn
  abbrev pub spot : ℕ → ℕ
  spot n = place_at way (first way from) n

  none_before : (k : ℕ) → Before way k (spot 0) → IsTrue (has from k) → ⊥
  none_before k b h = let inside = has_within from k h in first_is_first way from k inside.0 inside.1 b

  not_entered : (k : ℕ) → Before way k (spot 0) → EnteredAt way times (Matches r t) from k → ⊥
  not_entered = by times
    where
      by : (times : Times) → (k : ℕ) → Before way k (spot 0) → EnteredAt way times (Matches r t) from k → ⊥
      by Once = none_before
      by Often = no_again way (Matches r t) (λ x. IsTrue (has from x)) (spot 0) none_before

  -- the search so far: the marks at the place of this turn, and which of the places before it are reached
  pub record Going (n : ℕ) (marks : Marking) (out : Cells) : Type 0 where
    pub low : out.low ≡ from.low
    pub long : length out.cells ≡ length from.cells
    pub holds : n < length from.cells → Holds way t r (EnteredAt way times (Matches r t) from) (spot n) marks
    pub done : (m : ℕ) → m < n → m < length from.cells → IsTrue (has out (spot m)) ↔ Reached way
        (so_many times (Matches r t)) from (spot m)
    pub rest : (m : ℕ) → n ≤ m → m < length from.cells → has out (spot m) ≡ false

  pub going_first : Going 0 (fresh way r (here_at t (first way from))) (none_from from.low (length from.cells))
  going_first = record {
    low = refl;
    long = none_long (length from.cells);
    holds = λ l. subst (λ (x : ℕ). Holds way t r (EnteredAt way times (Matches r t) from) (spot 0)
        (fresh way r (here_at t x))) (no_turn way (first way from))
        (fresh_holds way t r (EnteredAt way times (Matches r t) from) (spot 0) not_entered);
    done = λ m before l. absurd (omega (arith, before));
    rest = λ m after l. none_has from.low (length from.cells) (spot m);
  }

  pub going_end : (n : ℕ) (marks : Marking) (out : Cells) → length from.cells ≤ n → Going n marks out
      → AreReached way (so_many times (Matches r t)) from out
  going_end n marks out all g j l p =
      let turn = turn_of way from j l p in
      subst (λ (x : ℕ). IsTrue (has out x) ↔ Reached way (so_many times (Matches r t)) from x) turn.2
      (g.done turn.0 (omega (arith, turn.1, all)) turn.1)

  pub going_more : (n : ℕ) (marks new : Marking) (out : Cells) (entered : Bool) → n < length from.cells
      → past from ≤ length t + 1 → entered ≡ enters times (has from (spot n)) (mark_of marks)
      → (n + 1 < length from.cells → new ≡ step way r (read_at way t (spot n) (spot (n + 1))) entered marks)
      → Going n marks out → Going (n + 1) new (put_if out (spot n) (leaves times (mark_of marks) entered))
  going_more n marks new out entered l within e steps g = record {
    low = put_low out i on ∙ g.low;
    long = put_long out i on ∙ g.long;
    holds = λ m.
        let fits = first_fits way from (n + 1) (length t) m within in
        let moved = stepped_holds way t r E i (spot (n + 1)) entered marks
        (turns_next way (first way from) n (length t) fits) (turns_lower way (first way from) n (length t) fits)
        is_entered here.1 in
        subst (λ (x : Marking). Holds way t r E (spot (n + 1)) x) (sym (steps m)) moved;
    done = λ m before lm. elim (cases_lt m n) [
      | inl x ↦
          let d = g.done m x lm in
          let same = put_other out i (spot m) on above (other m lm (omega (arith, x))) in
          (λ h. d.0 (sym same ∙ h), λ p. same ∙ d.1 p)
      | inr y ↦
          let same : n ≡ m = omega (arith, before, y) in
          subst (λ (x : ℕ). IsTrue (has (put_if out i on) (spot x)) ↔ Reached way (so_many times (Matches r t)) from
          (spot x)) same reached
    ];
    rest = λ m after lm. put_other out i (spot m) on above (other m lm (omega (arith, after)))
        ∙ g.rest m (omega (arith, after)) lm;
  }
    where
      i : ℕ
      i = spot n

      on : Bool
      on = leaves times (mark_of marks) entered

      E : ℕ → Type 0
      E = EnteredAt way times (Matches r t) from

      here : Holds way t r E i marks
      here = g.holds l

      is_entered : IsTrue entered ↔ E i
      is_entered = subst (λ (x : Bool). IsTrue x ↔ E i) (sym e) (enters_is way times (Matches r t) from i
          (mark_of marks) here.0)

      above : out.low ≤ i
      above = omega (arith, g.low, (spot_inside way from n l).0)

      below : i < past out
      below = omega (arith, g.low, g.long, (spot_inside way from n l).1)

      other : (m : ℕ) → m < length from.cells → m ≢ n → spot m ≢ i
      other m lm ne same = ne (spot_other way from m n lm l same)

      reached : IsTrue (has (put_if out i on) i) ↔ Reached way (so_many times (Matches r t)) from i
      reached = subst (λ (x : Bool). IsTrue x ↔ Reached way (so_many times (Matches r t)) from i)
          (sym (put_same out i on above below (g.rest n (omega arith) l)))
          (leaves_is way times (Matches r t) from i (mark_of marks) entered (Matches-on r t) here.0 is_entered)
