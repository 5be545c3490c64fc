use Rattle.std.proofs.Common.{◌<◌, ℕ}
use Rattle.re_syntax.specs.Tree.{tree}
use Rattle.re_spans.specs.Over.{IsOver}
use Rattle.re_spans.proofs.over.first_over.Given as goal

abbrev pub invariant-loop-i : goal.invariant-loop-i
invariant-loop-i g l = (k m : ℕ) → k < l.i → IsOver (tree l.re) (g.T.Letters.letters l.text) l.at k m → ⊥
