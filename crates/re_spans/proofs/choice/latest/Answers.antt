use Rattle.std.proofs.Common.{◌-◌, sym, ◌∙◌, arith}
use Rattle.re_syntax.specs.Tree.{tree}
use Rattle.re_spans.proofs.Ways.{Matches-on}
use Rattle.re_spans.proofs.Choosing.{none_to, no_end, none_there}
use Rattle.re_spans.proofs.choice.latest.Goals as goal
use Rattle.re_spans.proofs.choice.latest.Goals.{then-has+in_ok-i+in_default, else-has}

pub returns-clause-none : goal.returns-clause-none
returns-clause-none g c = λ i j s.
    c.loop-n.invariant i j (omega (
      arith,
      c.in_ok-count.ensures,
      c.loop-n-test.false,
      c.requires.order,
      s.above,
      Matches-on (tree c.args.re.now) (g.T.Letters.letters c.args.text.now) i j s.matches,
    )) s

pub loop-n-preserved : goal.loop-n-preserved
loop-n-preserved g c =
    let text = g.T.Letters.letters c.args.text.now in
    let r = tree c.args.re.now in
    none_to r text c.args.bounds.low c.args.bounds.high c.args.bounds.no_null c.loop-n.n
    (omega (arith, c.in_ok-count.ensures, c.loop-n-test.true, c.requires.order)) c.loop-n.invariant
    (elim c.if-has.branch [
      | then-has+in_ok-i+in_default w ↦ none_there r text c.args.bounds.low c.args.bounds.high c.args.bounds.no_null
          (c.args.bounds.high - c.loop-n.n) (rw w.in_default.is at w.in_ok-i.ensures.none)
      | else-has w ↦ no_end r text c.args.bounds.low c.args.bounds.high c.args.bounds.no_null c.in_ok-ends.ends
          c.in_ok-ends.ensures.ends (c.args.bounds.high - c.loop-n.n) (sym c.has.ensures ∙ w.if-has.false)
    ])
