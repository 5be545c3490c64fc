use Rattle.std.proofs.Common.{◌<◌, length, arith}
use Rattle.re_syntax.specs.Tree.{tree}
use Rattle.re_spans.specs.Marks.{marks_of}
use Rattle.re_spans.proofs.Searching.{going_first, going_more, going_end}
use Rattle.re_spans.proofs.reach.search.Goals as goal

pub loop-turn-init : goal.loop-turn-init
loop-turn-init g c =
    rw (c.in_ok-marks.ensures, c.here_at.ensures, c.first-first.ensures, c.in_ok-out.ensures)
    (going_first c.args.way c.args.times (tree c.args.re.now) (g.T.Letters.letters c.args.text.now) c.args.from.now)

pub loop-turn-preserved : goal.loop-turn-preserved
loop-turn-preserved g c =
    let t = g.T.Letters.letters c.args.text.now in
    let from = c.args.from.now in
    let inside : c.loop-turn.turn < length from.cells = omega (
      arith,
      c.loop-turn-test.true,
      c.count-turn-end.ensures,
    ) in
    let entered = rw (c.has.ensures, c.place_at-i.ensures, c.first-first.ensures, c.mark.ensures) at
    c.enters-entered.ensures in
    rw (c.put_if.ensures, c.leaves.ensures, c.mark-in-loop-turn.ensures, c.place_at-i.ensures, c.first-first.ensures)
    (going_more c.args.way c.args.times (tree c.args.re.now) t from c.loop-turn.turn (marks_of c.loop-turn.marks)
    (marks_of c.go_on.new.marks) c.loop-turn.out c.enters-entered.result inside c.requires.within
    entered c.go_on.ensures c.loop-turn.invariant)

pub returns-clause-places : goal.returns-clause-places
returns-clause-places g c =
    going_end c.args.way c.args.times (tree c.args.re.now) (g.T.Letters.letters c.args.text.now) c.args.from.now
    c.loop-turn.turn (marks_of c.loop-turn.marks) c.loop-turn.out
    (omega (arith, c.loop-turn-test.false, c.count-turn-end.ensures)) c.loop-turn.invariant
