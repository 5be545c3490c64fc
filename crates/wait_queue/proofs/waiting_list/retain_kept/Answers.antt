use Rattle.std.proofs.Common.{rules}
use Rattle.std.proofs.lemmas.Fn.{filter_same}
use Rattle.wait_queue.specs.Held.{is_kept}
use Rattle.wait_queue.proofs.waiting_list.retain_kept.Goals as goal

pub returns : goal.returns
returns c = filter_same _ is_kept _ (λ x b q k. search rules) _ _ c.retain.ensures.filtered
