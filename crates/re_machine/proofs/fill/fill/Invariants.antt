use Rattle.std.specs.Prelude.{drop, map}
use Rattle.re_machine.specs.Listed.{list_of, tree_of}
use Rattle.re_machine.specs.Filling.{IsFilling}
use Rattle.re_machine.proofs.fill.fill.Given as goal

abbrev pub invariant-loop-k : goal.invariant-loop-k
invariant-loop-k g l = IsFilling g.S.LetterSet.bits l.here (map g.S.LetterSet.bits l.fn.rows) (tree_of l.nodes)
    (drop l.k (list_of l.nodes)) l.filling (map g.S.LetterSet.bits l.rows)
