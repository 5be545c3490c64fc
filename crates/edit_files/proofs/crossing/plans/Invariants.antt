use Rattle.std.proofs.Common.{◌≡◌, drop, length}
use Rattle.re_syntax.specs.Tree.{tree}
use Rattle.edit_parts.specs.Tree.{command}
use Rattle.edit_files.specs.Across.{takes, behind, plans_from, AllSuit}
use Rattle.edit_files.proofs.crossing.plans.Given as goal

abbrev pub invariant-loop-k : goal.invariant-loop-k
invariant-loop-k g l =
    (l.count ≡ length (g.W.Windows.names l.windows)) ×
    (behind l.all (plans_from (λ k. g.W.Windows.runs l.windows k (command l.cmd)) (takes l.with_match (tree l.re)) l.k
    (drop l.k (g.W.Windows.names l.windows)))
    ≡ plans_from (λ k. g.W.Windows.runs l.windows k (command l.cmd)) (takes l.with_match (tree l.re)) 0
    (g.W.Windows.names l.windows)) ×
    AllSuit (g.W.Windows.suits l.windows) l.all
