use Rattle.core_rules.proofs.Added.{refused_nothing}
use Rattle.core_rules.proofs.laws.refused_adds_nothing.Goals as goal

pub returns : goal.returns
returns c = refused_nothing
