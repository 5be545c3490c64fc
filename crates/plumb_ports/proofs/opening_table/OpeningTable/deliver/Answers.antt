use Rattle.std.proofs.Common.{◌≡◌, map, length, arith}
use Rattle.std.proofs.lemmas.List.{with_items_is}
use Rattle.std.proofs.lemmas.Result.{on_ok_weaker}
use Rattle.plumb_ports.specs.Shown.{kept_of, with_delivered}
use Rattle.plumb_ports.proofs.OpeningLemmas.{all_delivered, kept_of-taken}
use Rattle.plumb_ports.proofs.opening_table.OpeningTable.deliver.Goals as goal

pub returns-clause-ok : goal.returns-clause-ok
returns-clause-ok c =
    let same : length c.deliver_each.new.all ≡ c.self.inside.all.len = omega arith in
    let kept : map kept_of c.deliver_each.new.all ≡ map kept_of c.self.inside.all.items = cc in
    rw (← c.self.view_is, with_items_is c.self.inside.all c.deliver_each.new.all same)
    (on_ok_weaker c.deliver_each.result (λ e.
    let each : c.deliver_each.new.all ≡ map (with_delivered c.args.port c.args.message.now) c.self.inside.all.items =
    cc in
    all_delivered c.args.port c.args.message.now _ _ c.self.inside.kept each kept) c.deliver_each.ensures.ok)

pub returns-clause-kept : goal.returns-clause-kept
returns-clause-kept c =
    let same : length c.deliver_each.new.all ≡ c.self.inside.all.len = omega arith in
    let kept : map kept_of c.deliver_each.new.all ≡ map kept_of c.self.inside.all.items = cc in
    rw (← c.self.view_is, with_items_is c.self.inside.all c.deliver_each.new.all same) (kept_of-taken _ _ _ kept)
