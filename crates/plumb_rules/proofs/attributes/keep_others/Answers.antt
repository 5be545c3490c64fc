use Rattle.std.proofs.Common.{rules, not}
use Rattle.std.proofs.lemmas.Fn.{filter_same}
use Rattle.plumb_rules.specs.Attributes.{has_name}
use Rattle.plumb_rules.proofs.attributes.keep_others.Goals as goal

pub returns : goal.returns
returns c = filter_same _ (λ a. not (has_name c.args.name.now a)) _ (λ x b q k. search rules) _ _
    c.retain.ensures.filtered
