use Rattle.std.proofs.Common.{◌≡◌, length}
use Rattle.std.specs.Prelude.{map}
use Rattle.re_syntax.specs.Tree.{tree}
use Rattle.re_syntax.specs.Build.{choice}
use Rattle.re_syntax.proofs.builder.choice.Given as goal

abbrev pub invariant-loop-side : goal.invariant-loop-side
invariant-loop-side l = choice (tree l.whole) (map tree l.sides.items) ≡ choice (tree l.initial.whole)
    (map tree l.initial.sides.items)

abbrev pub decreases-loop-side : goal.decreases-loop-side
decreases-loop-side l = length l.sides.items
