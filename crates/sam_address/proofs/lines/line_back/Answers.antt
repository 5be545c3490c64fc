use Rattle.std.proofs.Common.{◌≡◌, ◌-◌, ◌≤◌, length, get_or, refl, sym, ap, ◌∙◌, arith}
use Rattle.std.proofs.lemmas.Bool.{eq-eqb, ne_eqb, cond-true, cond-false}
use Rattle.sam_address.proofs.Starts.{back_at_start, back_within, back_at_zero, end_at_start, end_within, lines_back_is}
use Rattle.sam_address.proofs.Starts.{found_back}
use Rattle.sam_address.specs.Value.{back_along}
use Rattle.sam_address.specs.Lines.{starts_back, line_at}
use Rattle.sam_address.proofs.lines.line_back.Goals as goal
use Rattle.sam_address.proofs.lines.line_back.Goals.{then-at-eq-NEWLINE+else-left-eq0, else-at-eq-NEWLINE}

pub loop-at-preserved : goal.loop-at-preserved
loop-at-preserved g c =
    let t = g.T.Letters.letters c.args.text.now in
    let at = c.loop-at.at in
    let inside : at ≤ length t = omega arith in
    elim c.if-at-eq-NEWLINE.branch [
      | then-at-eq-NEWLINE+else-left-eq0 w ↦
          let newline : get_or t (at - 1) 0 ≡ 10 = sym c.at.ensures ∙ w.if-at-eq-NEWLINE.true in
          rw (w.left-is, w.end-is) (record {
            down = omega arith;
            order = omega arith;
            within = omega arith;
            fewer = omega arith;
            same = sym (back_at_start t at c.loop-at.left c.loop-at-test.true inside newline
                ∙ cond-false _ _ _ (ne_eqb c.loop-at.left 0 w.if-left-eq0.false)) ∙ c.loop-at.invariant.same;
            ends = λ _. sym (end_at_start t at c.loop-at-test.true inside newline);
          })
      | else-at-eq-NEWLINE w ↦
          let other : get_or t (at - 1) 0 ≡ 10 → ⊥ = λ e. w.if-at-eq-NEWLINE.false (c.at.ensures ∙ e) in
          rw (w.left-is, w.end-is) (record {
            down = omega arith;
            order = omega arith;
            within = omega arith;
            fewer = omega arith;
            same = sym (back_within t at c.loop-at.left c.loop-at-test.true inside other) ∙ c.loop-at.invariant.same;
            ends = λ l. c.loop-at.invariant.ends l ∙ sym (end_within t at c.loop-at-test.true inside other);
          })
    ]

pub returns-then-left-eq0-clause-value : goal.returns-then-left-eq0-clause-value
returns-then-left-eq0-clause-value g c =
    let t = g.T.Letters.letters c.args.text.now in
    let at = c.loop-at.at in
    let newline : get_or t (at - 1) 0 ≡ 10 = sym c.at.ensures ∙ c.if-at-eq-NEWLINE.true in
    let along = back_at_start t at c.loop-at.left c.loop-at-test.true (omega arith) newline
    ∙ cond-true _ _ _ (eq-eqb c.loop-at.left 0 c.if-left-eq0.true) in
    found_back t at c.loop-at.end (c.loop-at.invariant.ends (omega arith))
    ∙ sym (lines_back_is t c.args.place c.args.n c.requires.counted ∙ (sym c.loop-at.invariant.same ∙ along))

pub returns-in-0-clause-value : goal.returns-in-0-clause-value
returns-in-0-clause-value g c =
    let t = g.T.Letters.letters c.args.text.now in
    let zero : c.loop-at.at ≡ 0 = omega arith in
    let along = ap (λ x. back_along t (starts_back t x) c.loop-at.left) zero
    ∙ (back_at_zero t c.loop-at.left ∙ cond-true _ _ _ (eq-eqb c.loop-at.left 0 c.in-0.is)) in
    found_back t 0 c.loop-at.end (c.loop-at.invariant.ends (omega arith) ∙ ap (λ x. (line_at t x).q1) zero)
    ∙ sym (lines_back_is t c.args.place c.args.n c.requires.counted ∙ (sym c.loop-at.invariant.same ∙ along))

pub returns-in-1-clause-value : goal.returns-in-1-clause-value
returns-in-1-clause-value g c =
    let t = g.T.Letters.letters c.args.text.now in
    let zero : c.loop-at.at ≡ 0 = omega arith in
    let along = ap (λ x. back_along t (starts_back t x) c.loop-at.left) zero
    ∙ (back_at_zero t c.loop-at.left ∙ (rw c.in-1.is refl)) in
    rw c.null_at.ensures (sym (lines_back_is t c.args.place c.args.n c.requires.counted
    ∙ (sym c.loop-at.invariant.same ∙ along)))

pub returns-in_default-clause-value : goal.returns-in_default-clause-value
returns-in_default-clause-value g c =
    let t = g.T.Letters.letters c.args.text.now in
    let zero : c.loop-at.at ≡ 0 = omega arith in
    let along = ap (λ x. back_along t (starts_back t x) c.loop-at.left) zero
    ∙ (back_at_zero t c.loop-at.left ∙ (cond-false _ _ _ (ne_eqb c.loop-at.left 0 (omega arith))
    ∙ cond-false _ _ _ (ne_eqb (c.loop-at.left - 1) 0 (omega arith)))) in
    sym (lines_back_is t c.args.place c.args.n c.requires.counted ∙ (sym c.loop-at.invariant.same ∙ along))
