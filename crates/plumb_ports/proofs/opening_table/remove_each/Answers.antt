use Rattle.std.proofs.Common.{rules, not}
use Rattle.std.proofs.lemmas.Fn.{filter_same}
use Rattle.plumb_ports.proofs.OpeningLemmas.{has}
use Rattle.plumb_ports.proofs.opening_table.remove_each.Goals as goal

pub returns : goal.returns
returns c =
    filter_same _ (λ q. not (has c.args.opening q)) _ (λ x b q k. search rules) _ _ c.retain.ensures.filtered
