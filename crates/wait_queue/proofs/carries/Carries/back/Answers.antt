use Rattle.std.proofs.Common.{◌≡◌, map, take, length, arith, length-take}
use Rattle.wait_queue.specs.declared.carries.Opening.{Opening}
use Rattle.std.proofs.lemmas.List.{with_items_is}
use Rattle.wait_queue.specs.Openings.{with_kept}
use Rattle.wait_queue.proofs.OpeningLemmas.{all_back}
use Rattle.wait_queue.proofs.carries.Carries.back.Goals as goal

pub returns : goal.returns
returns c =
    let same : length c.back_each.new.all ≡ c.truncate.new.self.len = omega arith in
    let each : c.back_each.new.all ≡ map with_kept (take c.self.inside.kept c.self.inside.all.items) = cc in
    rw (← c.self.view_is, with_items_is c.truncate.new.self c.back_each.new.all same)
    (all_back _ _ _ each (omega (arith, length-take {A = Opening})))
