use Rattle.re_syntax.specs.Tree.{tree}
use Rattle.re_spans.specs.Choice.{AmongThose}
use Rattle.re_spans.specs.Marks.{marks_of}
use Rattle.re_spans.specs.declared.way.Way.TheVariants.{On}
use Rattle.re_spans.proofs.Walking.{Walked}
use Rattle.re_spans.proofs.walk.farthest_among.Given as goal

abbrev pub invariant-loop-turn : goal.invariant-loop-turn
invariant-loop-turn g l =
    Walked On (tree l.re) (g.T.Letters.letters l.text) l.at (AmongThose l.set l.low l.at) l.turn (marks_of l.marks)
    l.best
