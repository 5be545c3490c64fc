use Rattle.re_syntax.specs.Tree.{tree}
use Rattle.re_spans.specs.Choice.{UnlessNull}
use Rattle.re_spans.specs.Marks.{marks_of}
use Rattle.re_spans.proofs.Walking.{Walked}
use Rattle.re_spans.proofs.walk.farthest.Given as goal

abbrev pub invariant-loop-turn : goal.invariant-loop-turn
invariant-loop-turn g l =
    Walked l.stretch.way (tree l.re) (g.T.Letters.letters l.text) l.stretch.at (UnlessNull l.skip) l.turn
    (marks_of l.marks) l.best
