use Rattle.std.proofs.Common.{◌≡◌, ◌++◌, false, length}
use Rattle.edit_run.specs.Replacing.{group_text, expand}
use Rattle.edit_run.proofs.replacing.expand.Given as goal

abbrev pub invariant-loop-rest : goal.invariant-loop-rest
invariant-loop-rest g l =
    let group = group_text (g.T.Letters.letters l.text) l.groups in
    l.made ++ expand l.whole group l.behind l.rest ≡ expand l.whole group false l.with

abbrev pub decreases-loop-rest : goal.decreases-loop-rest
decreases-loop-rest g l = length l.rest
