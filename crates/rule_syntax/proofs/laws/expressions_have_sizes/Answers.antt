use Rattle.rule_syntax.proofs.ExpressionLemmas.{has_size}
use Rattle.rule_syntax.proofs.laws.expressions_have_sizes.Goals as goal

pub returns : goal.returns
returns c = has_size
