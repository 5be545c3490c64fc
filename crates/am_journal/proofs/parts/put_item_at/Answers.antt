use Rattle.std.proofs.Common.{List, ℕ, ◌≡◌, ◌++◌, ap, sym, subst, ◌∙◌}
use Rattle.std.specs.Prelude.{OnOk}
use Rattle.am_journal.specs.Report.{item_line}
use Rattle.am_journal.proofs.Parted.{item_at}
use Rattle.am_journal.proofs.parts.put_item_at.Goals as goal

pub returns : goal.returns
returns c =
    let view = c.index-views-k.result in
    subst (λ (l : List ℕ). OnOk c.put_item.result (c.put_item.new.out ≡ c.args.out.now ++ l))
    (ap item_line c.index-views-k.is ∙ sym (item_at c.args.views.now c.args.k view c.requires)) c.put_item.ensures
