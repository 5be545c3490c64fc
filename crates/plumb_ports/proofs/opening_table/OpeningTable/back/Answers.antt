use Rattle.std.proofs.Common.{◌≡◌, map, take, length, arith, length-take}
use Rattle.std.proofs.lemmas.List.{with_items_is}
use Rattle.am_text.specs.Twice.{Twice}
use Rattle.plumb_ports.specs.Inboxes.{Inbox}
use Rattle.plumb_ports.specs.Shown.{with_kept}
use Rattle.plumb_ports.proofs.OpeningLemmas.{all_back}
use Rattle.plumb_ports.proofs.opening_table.OpeningTable.back.Goals as goal

pub returns : goal.returns
returns c =
    let same : length c.back_each.new.all ≡ c.truncate.new.self.len = omega arith in
    let each : c.back_each.new.all ≡ map with_kept (take c.self.inside.kept c.self.inside.all.items) = cc in
    rw (← c.self.view_is, with_items_is c.truncate.new.self c.back_each.new.all same)
    (all_back _ _ _ each (omega (arith, length-take {A = Twice Inbox})))
