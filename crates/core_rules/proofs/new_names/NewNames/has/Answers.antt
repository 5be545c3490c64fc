use Rattle.std.proofs.Common.{◌∙◌}
use Rattle.core_rules.proofs.Named.{among}
use Rattle.core_rules.proofs.new_names.NewNames.has.Goals as goal

pub returns : goal.returns
returns c = rw (← c.self.view_is) (c.contains.ensures ∙ among c.args.name.now c.self.inside.names.keys)
