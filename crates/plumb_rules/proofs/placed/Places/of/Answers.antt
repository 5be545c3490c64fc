use Rattle.std.proofs.Common.{◌∙◌}
use Rattle.plumb_rules.proofs.Placing.{found}
use Rattle.plumb_rules.proofs.placed.Places.of.Goals as goal

pub returns : goal.returns
returns c = rw (← c.self.view_is) (c.copied.ensures ∙ c.get.ensures.value ∙ found (λ v. v.items) c.args.name.now
    c.self.inside.by_name.entries)
