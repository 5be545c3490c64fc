use Rattle.std.specs.Prelude.{◌≡◌, ◌++◌, drop, map}
use Rattle.re_syntax.specs.Tree.{tree}
use Rattle.re_machine.specs.Listed.{list_of, letters_of}
use Rattle.re_machine.proofs.leaves.leaves_of.Given as goal

abbrev pub invariant-loop-k : goal.invariant-loop-k
invariant-loop-k l = map tree l.leaves.items ++ letters_of (drop l.k (list_of l.nodes)) ≡ letters_of (list_of l.nodes)
