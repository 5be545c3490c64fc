use Rattle.std.proofs.Common.{rules, not}
use Rattle.std.proofs.lemmas.Fn.{filter_same}
use Rattle.wait_queue.specs.Openings.{has_id}
use Rattle.wait_queue.proofs.carries.remove_each.Goals as goal

pub returns : goal.returns
returns c =
    filter_same _ (λ o. not (has_id c.args.id o)) _ (λ x b q k. search rules) _ _ c.retain.ensures.filtered
