use Rattle.std.proofs.Common.{◌+◌, ◌-◌, arith}
use Rattle.re_syntax.specs.Tree.{tree}
use Rattle.re_spans.specs.Successive.{successive_from, successive}
use Rattle.re_spans.proofs.Following.{told_first, told_next, all_told, no_more, no_turns, ordered_of}
use Rattle.re_spans.proofs.successive.successive_matches.Goals as goal

pub loop-turn-init : goal.loop-turn-init
loop-turn-init g c = record {
  above = omega arith;
  below = c.requires.order;
  told = told_first (tree c.args.re.now) (g.T.Letters.letters c.args.text.now) c.args.from c.args.end c.new-all.result
      c.new-all.ensures;
}

pub loop-turn-preserved : goal.loop-turn-preserved
loop-turn-preserved g c =
    let inside = rw c.in-Some.is at c.in_ok-found.ensures.inside in
    let next = rw c.in-Some.is at c.in_ok-found.ensures.value in
    record {
      above = omega (arith, inside.above, inside.order, c.loop-turn.invariant.above);
      below = inside.below;
      told =
          rw c.in_ok-push.ensures.ok (told_next (tree c.args.re.now) (g.T.Letters.letters c.args.text.now) c.args.from
          c.args.end c.loop-turn.no_null c.loop-turn.at (c.args.end + 1 - c.args.from) c.loop-turn.turn
          c.loop-turn.all c.in-Some.found (omega (arith, c.loop-turn-test.true, c.in_ok-turn-end.ensures)) next
          c.loop-turn.invariant.told);
    }

pub returns-in_default-clause-ordered : goal.returns-in_default-clause-ordered
returns-in_default-clause-ordered g c =
    let r = tree c.args.re.now in
    let t = g.T.Letters.letters c.args.text.now in
    let left = c.args.end + 1 - c.args.from - c.loop-turn.turn in
    let none = no_more r t c.args.end c.loop-turn.no_null c.loop-turn.at left
    (rw c.in_default.is at c.in_ok-found.ensures.value) in
    ordered_of r t c.args.from c.args.end c.loop-turn.all (all_told c.loop-turn.all
    (successive_from r t c.args.end c.loop-turn.no_null c.loop-turn.at left) (successive r t c.args.from c.args.end)
    none c.loop-turn.invariant.told)

pub returns-clause-ordered : goal.returns-clause-ordered
returns-clause-ordered g c =
    let r = tree c.args.re.now in
    let t = g.T.Letters.letters c.args.text.now in
    let left = c.args.end + 1 - c.args.from - c.loop-turn.turn in
    let none = no_turns r t c.args.end c.loop-turn.no_null c.loop-turn.at left
    (omega (arith, c.loop-turn-test.false, c.in_ok-turn-end.ensures)) in
    ordered_of r t c.args.from c.args.end c.loop-turn.all (all_told c.loop-turn.all
    (successive_from r t c.args.end c.loop-turn.no_null c.loop-turn.at left) (successive r t c.args.from c.args.end)
    none c.loop-turn.invariant.told)
