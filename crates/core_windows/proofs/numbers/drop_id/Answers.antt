use Rattle.std.proofs.Common.{rules, not, eqb}
use Rattle.std.proofs.lemmas.Fn.{filter_same}
use Rattle.core_windows.proofs.numbers.drop_id.Goals as goal

pub returns : goal.returns
returns c = filter_same _ (λ id. not (eqb id c.args.window)) _ (λ x b q k. search rules) _ _ c.retain.ensures.filtered
