use Rattle.std.proofs.Common.{◌<◌, ◌+◌, ℕ}
use Rattle.re_syntax.specs.Tree.{tree}
use Rattle.re_syntax.specs.Match.{IsSpan}
use Rattle.re_spans.proofs.choice.latest.Given as goal

abbrev pub invariant-loop-n : goal.invariant-loop-n
invariant-loop-n g l = (k m : ℕ) → l.bounds.high < m + l.n → IsSpan (tree l.re) (g.T.Letters.letters l.text)
    l.bounds.low l.bounds.high l.bounds.no_null k m → ⊥
