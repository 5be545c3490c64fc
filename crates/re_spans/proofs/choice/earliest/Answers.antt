use Rattle.std.proofs.Common.{◌+◌, sym, ◌∙◌, arith}
use Rattle.re_syntax.specs.Tree.{tree}
use Rattle.re_spans.proofs.Ways.{Matches-on}
use Rattle.re_spans.proofs.Choosing.{none_from, no_start, none_here}
use Rattle.re_spans.proofs.choice.earliest.Goals as goal
use Rattle.re_spans.proofs.choice.earliest.Goals.{then-has+in_ok-j+in_default, else-has}

pub returns-clause-none : goal.returns-clause-none
returns-clause-none g c = λ i j s.
    c.loop-n.invariant i j (omega (
      arith,
      c.in_ok-count.ensures,
      c.loop-n-test.false,
      c.requires.order,
      s.below,
      Matches-on (tree c.args.re.now) (g.T.Letters.letters c.args.text.now) i j s.matches,
    )) s

pub loop-n-preserved : goal.loop-n-preserved
loop-n-preserved g c = λ k m l.
    let text = g.T.Letters.letters c.args.text.now in
    let r = tree c.args.re.now in
    none_from r text c.args.bounds.low c.args.bounds.high c.args.bounds.no_null (c.args.bounds.low + c.loop-n.n)
    c.loop-n.invariant
    (elim c.if-has.branch [
      | then-has+in_ok-j+in_default w ↦ none_here r text c.args.bounds.low c.args.bounds.high c.args.bounds.no_null
          (c.args.bounds.low + c.loop-n.n) (rw w.in_default.is at w.in_ok-j.ensures.none)
      | else-has w ↦ no_start r text c.args.bounds.low c.args.bounds.high c.args.bounds.no_null c.args.starts.now
          c.requires.starts (c.args.bounds.low + c.loop-n.n) (sym c.has.ensures ∙ w.if-has.false)
    ]) k m (omega (arith, l))
