use Rattle.std.specs.Prelude.{◌≡◌, map, drop}
use Rattle.re_syntax.specs.Tree.{tree}
use Rattle.re_machine.specs.Leaves.{taken_from, taken_word}
use Rattle.re_machine.proofs.leaves.taking.Given as goal

abbrev pub invariant-loop-n : goal.invariant-loop-n
invariant-loop-n g l = taken_from (map tree (drop l.n l.leaves)) l.rune l.n
    (g.S.LetterSet.bits l.set) ≡ taken_word (map tree l.leaves) l.rune
