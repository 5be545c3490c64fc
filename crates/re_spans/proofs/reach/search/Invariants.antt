use Rattle.re_syntax.specs.Tree.{tree}
use Rattle.re_spans.specs.Marks.{marks_of}
use Rattle.re_spans.proofs.Searching.{Going}
use Rattle.re_spans.proofs.reach.search.Given as goal

abbrev pub invariant-loop-turn : goal.invariant-loop-turn
invariant-loop-turn g l =
    Going l.way l.times (tree l.re) (g.T.Letters.letters l.text) l.from l.turn (marks_of l.marks) l.out
