use Rattle.plumb_rules.proofs.Expressions.{expression_some, expression_only}
use Rattle.plumb_rules.proofs.laws.expressions_have_trees.Goals as goal

pub returns : goal.returns
returns c = λ text r. (expression_only text r, expression_some text r)
