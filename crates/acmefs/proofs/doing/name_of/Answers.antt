use Rattle.acmefs.proofs.Does.{name_fits}
use Rattle.acmefs.proofs.doing.name_of.Goals as goal

pub returns-clause-fits : goal.returns-clause-fits
returns-clause-fits c = name_fits c.args.tree c.name.result.now c.name.ensures
