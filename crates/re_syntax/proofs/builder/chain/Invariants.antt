use Rattle.std.proofs.Common.{◌≡◌, length}
use Rattle.std.specs.Prelude.{map}
use Rattle.re_syntax.specs.Tree.{tree}
use Rattle.re_syntax.specs.Build.{chain}
use Rattle.re_syntax.proofs.builder.chain.Given as goal

abbrev pub invariant-loop-part : goal.invariant-loop-part
invariant-loop-part l = chain (tree l.whole) (map tree l.parts.items) ≡ chain (tree l.initial.whole)
    (map tree l.initial.parts.items)

abbrev pub decreases-loop-part : goal.decreases-loop-part
decreases-loop-part l = length l.parts.items
