use Rattle.std.proofs.Common.{◌≡◌, map, length, arith}
use Rattle.std.proofs.lemmas.List.{with_items_is}
use Rattle.wait_queue.specs.Openings.{with_none}
use Rattle.wait_queue.proofs.OpeningLemmas.{all_none}
use Rattle.wait_queue.proofs.carries.Carries.clear.Goals as goal

pub returns : goal.returns
returns c =
    let same : length c.clear_each.new.all ≡ c.self.inside.all.len = omega arith in
    let each : c.clear_each.new.all ≡ map with_none c.self.inside.all.items = cc in
    rw (← c.self.view_is, with_items_is c.self.inside.all c.clear_each.new.all same) (all_none _ _ _ each (omega arith))
