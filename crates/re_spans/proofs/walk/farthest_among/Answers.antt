use Rattle.std.proofs.Common.{◌≡◌, ◌+◌, ◌-◌, ◌≤◌, ◌&&◌, length, false, refl, sym, ◌∙◌, arith}
use Rattle.std.specs.Prelude.{nat_le}
use Rattle.re_syntax.specs.Tree.{tree}
use Rattle.re_spans.specs.Choice.{AmongThose}
use Rattle.re_spans.specs.Leaves.{here_at}
use Rattle.re_spans.specs.Marks.{marks_of, mark_of, fresh, is_alive}
use Rattle.re_spans.specs.Places.{has}
use Rattle.re_spans.specs.declared.way.Way.TheVariants.{On}
use Rattle.re_spans.proofs.Walking.{among, walked_first, walked_more, walked_out}
use Rattle.re_spans.proofs.walk.farthest_among.Goals as goal

pub loop-turn-init : goal.loop-turn-init
loop-turn-init g c =
    let t = g.T.Letters.letters c.args.text.now in
    let at = c.args.at in
    let null = (mark_of (fresh On (tree c.args.re.now) (here_at t at))).null in
    rw (c.null_match-best.ensures, c.is_among.ensures, c.mark.ensures, c.in_ok-marks.ensures, c.here_at.ensures)
    (walked_first On (tree c.args.re.now) t at (AmongThose c.args.set.now c.args.low at)
    (null && (nat_le c.args.low at && has c.args.set.now at)) (among c.args.set.now c.args.low at 0 at null
    (omega arith)))

pub loop-turn-preserved : goal.loop-turn-preserved
loop-turn-preserved g c =
    let t = g.T.Letters.letters c.args.text.now in
    let at = c.args.at in
    let next = at + (c.loop-turn.turn + 1) in
    let fits : next ≤ length t = omega (arith, c.loop-turn-test.true, c.requires.order, c.requires.within) in
    let led = (mark_of (marks_of c.advance.new.marks)).led in
    rw (c.set_if-best.ensures, c.led_among-ends.ensures, c.mark-in-loop-turn.ensures)
    (walked_more On (tree c.args.re.now) t at (AmongThose c.args.set.now c.args.low at) c.loop-turn.turn
    (marks_of c.loop-turn.marks) (marks_of c.advance.new.marks) c.loop-turn.best
    (led && (nat_le c.args.low next && has c.args.set.now next)) fits c.advance.ensures
    (among c.args.set.now c.args.low at (c.loop-turn.turn + 1) next led refl) c.loop-turn.invariant)

pub returns-then-not-is_alive-clause-some : goal.returns-then-not-is_alive-clause-some
returns-then-not-is_alive-clause-some g c =
    let t = g.T.Letters.letters c.args.text.now in
    let fits : c.args.at + (c.args.high - c.args.at) ≤ length t = omega (arith, c.requires.order, c.requires.within) in
    let dead : is_alive (marks_of c.advance.new.marks) ≡ false = sym c.is_alive.ensures ∙ c.if-not-is_alive.true in
    (walked_out On (tree c.args.re.now) t c.args.at (AmongThose c.args.set.now c.args.low c.args.at) c.loop-turn.turn
    (c.args.high - c.args.at) (marks_of c.loop-turn.marks) (marks_of c.advance.new.marks) c.loop-turn.best
    c.loop-turn-test.true fits c.advance.ensures dead c.loop-turn.invariant).0

pub returns-then-not-is_alive-clause-none : goal.returns-then-not-is_alive-clause-none
returns-then-not-is_alive-clause-none g c =
    let t = g.T.Letters.letters c.args.text.now in
    let fits : c.args.at + (c.args.high - c.args.at) ≤ length t = omega (arith, c.requires.order, c.requires.within) in
    let dead : is_alive (marks_of c.advance.new.marks) ≡ false = sym c.is_alive.ensures ∙ c.if-not-is_alive.true in
    (walked_out On (tree c.args.re.now) t c.args.at (AmongThose c.args.set.now c.args.low c.args.at) c.loop-turn.turn
    (c.args.high - c.args.at) (marks_of c.loop-turn.marks) (marks_of c.advance.new.marks) c.loop-turn.best
    c.loop-turn-test.true fits c.advance.ensures dead c.loop-turn.invariant).1
