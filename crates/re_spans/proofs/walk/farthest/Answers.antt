use Rattle.std.proofs.Common.{◌≡◌, ◌+◌, ◌&&◌, length, false, not, sym, ◌∙◌, arith}
use Rattle.re_syntax.specs.Tree.{tree}
use Rattle.re_spans.specs.Choice.{UnlessNull}
use Rattle.re_spans.specs.Leaves.{here_at}
use Rattle.re_spans.specs.Marks.{marks_of, mark_of, fresh, is_alive}
use Rattle.re_spans.proofs.Orders.{fewer_turns}
use Rattle.re_spans.proofs.Walking.{null_unless, led_unless, walked_first, walked_more, walked_out}
use Rattle.re_spans.proofs.walk.farthest.Goals as goal

pub loop-turn-init : goal.loop-turn-init
loop-turn-init g c =
    let t = g.T.Letters.letters c.args.text.now in
    let null = (mark_of (fresh c.args.stretch.way (tree c.args.re.now) (here_at t c.args.stretch.at))).null in
    rw (c.null_match-best.ensures, c.mark.ensures, c.in_ok-marks.ensures, c.here_at.ensures)
    (walked_first c.args.stretch.way (tree c.args.re.now) t c.args.stretch.at (UnlessNull c.args.skip)
    (null && not c.args.skip) (null_unless c.args.skip null))

pub loop-turn-preserved : goal.loop-turn-preserved
loop-turn-preserved g c =
    let t = g.T.Letters.letters c.args.text.now in
    let fits = fewer_turns c.args.stretch.way c.args.stretch.at (c.loop-turn.turn + 1) c.args.stretch.turns (length t)
    (omega (arith, c.loop-turn-test.true)) c.requires.within in
    let led = (mark_of (marks_of c.advance.new.marks)).led in
    rw (c.set_if-best.ensures, c.mark-in-loop-turn.ensures) (walked_more c.args.stretch.way (tree c.args.re.now) t
    c.args.stretch.at (UnlessNull c.args.skip) c.loop-turn.turn (marks_of c.loop-turn.marks)
    (marks_of c.advance.new.marks) c.loop-turn.best led fits c.advance.ensures
    (led_unless c.args.skip led c.loop-turn.turn) c.loop-turn.invariant)

pub returns-then-not-is_alive-clause-some : goal.returns-then-not-is_alive-clause-some
returns-then-not-is_alive-clause-some g c =
    let t = g.T.Letters.letters c.args.text.now in
    let dead : is_alive (marks_of c.advance.new.marks) ≡ false = sym c.is_alive.ensures ∙ c.if-not-is_alive.true in
    (walked_out c.args.stretch.way (tree c.args.re.now) t c.args.stretch.at (UnlessNull c.args.skip) c.loop-turn.turn
    c.args.stretch.turns (marks_of c.loop-turn.marks) (marks_of c.advance.new.marks) c.loop-turn.best
    c.loop-turn-test.true c.requires.within c.advance.ensures dead c.loop-turn.invariant).0

pub returns-then-not-is_alive-clause-none : goal.returns-then-not-is_alive-clause-none
returns-then-not-is_alive-clause-none g c =
    let t = g.T.Letters.letters c.args.text.now in
    let dead : is_alive (marks_of c.advance.new.marks) ≡ false = sym c.is_alive.ensures ∙ c.if-not-is_alive.true in
    (walked_out c.args.stretch.way (tree c.args.re.now) t c.args.stretch.at (UnlessNull c.args.skip) c.loop-turn.turn
    c.args.stretch.turns (marks_of c.loop-turn.marks) (marks_of c.advance.new.marks) c.loop-turn.best
    c.loop-turn-test.true c.requires.within c.advance.ensures dead c.loop-turn.invariant).1
