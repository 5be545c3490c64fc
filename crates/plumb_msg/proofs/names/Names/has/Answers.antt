use Rattle.std.proofs.Common.{◌∙◌}
use Rattle.plumb_msg.proofs.NameLemmas.{found}
use Rattle.plumb_msg.proofs.names.Names.has.Goals as goal

pub returns : goal.returns
returns c = rw (← c.self.view_is) (c.contains.ensures ∙ found (λ v. v.items) c.args.name.now c.self.inside.all.keys)
