use Rattle.std.proofs.Common.{length, subst}
use Rattle.std.specs.Prelude.{◌↔◌, IsTrue}
use Rattle.re_syntax.specs.Match.{Matches}
use Rattle.re_syntax.specs.Tree.{tree}
use Rattle.plumb_rules.specs.Whole.{is_all}
use Rattle.plumb_rules.proofs.FirstMatches.{all_tells}
use Rattle.plumb_rules.proofs.whole.by_machine.Goals as goal

pub returns : goal.returns
returns c =
    rw c.is_all.ensures
    (subst (λ n. IsTrue (is_all c.in_ok-found.found c.len-end.result) ↔ Matches (tree c.args.re.now) c.args.text.now 0
    n) c.len-end.ensures
    (subst (λ r. IsTrue (is_all c.in_ok-found.found c.len-end.result) ↔ Matches r c.args.text.now 0 c.len-end.result)
    c.in_ok-machine.ensures
    (all_tells (tree c.in_ok-machine.machine) c.args.text.now c.len-end.result c.in_ok-found.found
    c.in_ok-found.ensures.found c.in_ok-found.ensures.none)))
