use Rattle.std.proofs.Common.{length, refl}
use Rattle.re_syntax.specs.Tree.{tree}
use Rattle.plumb_rules.proofs.Expressions.{whole_tells, whole_inside}
use Rattle.plumb_rules.proofs.matching.is_whole.Goals as goal

pub returns-clause-value : goal.returns-clause-value
returns-clause-value c = whole_tells (tree c.args.re.now) c.args.text.now (length c.args.text.now) c.in_ok-yes.yes refl
    c.in_ok-yes.ensures

pub returns-clause-inside : goal.returns-clause-inside
returns-clause-inside c = whole_inside (tree c.args.re.now) c.args.text.now (length c.args.text.now) c.in_ok-yes.yes
    refl c.in_ok-yes.ensures
