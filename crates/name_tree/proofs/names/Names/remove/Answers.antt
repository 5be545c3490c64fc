use Rattle.std.proofs.Common.{ap, ◌∙◌}
use Rattle.std.specs.BTreeMap.{is_at}
use Rattle.name_tree.specs.Entries.{byte_order}
use Rattle.name_tree.proofs.EntryLemmas.{shown, removed_shown}
use Rattle.name_tree.proofs.names.Names.remove.Goals as goal

pub returns : goal.returns
returns c =
    rw (← c.self.view_is)
    (ap (shown (λ v. v.items)) c.remove.ensures.entries ∙ removed_shown (λ v. v.items)
    (is_at (byte_order c.args.name.now)) c.self.inside.by_name.entries)
