use Rattle.std.proofs.Common.{◌≡◌, length, map}
use Rattle.edit_parts.specs.Tree.{command}
use Rattle.sam_syntax.specs.Joined.{in_loops}
use Rattle.sam_syntax.specs.Read.{head_of}
use Rattle.sam_syntax.proofs.reading.in_loops.Given as goal

abbrev pub invariant-loop-head : goal.invariant-loop-head
invariant-loop-head l = in_loops (map head_of l.heads.items) (command l.whole)
    ≡ in_loops (map head_of l.initial.heads.items) (command l.initial.whole)

abbrev pub decreases-loop-head : goal.decreases-loop-head
decreases-loop-head l = length l.heads.items
