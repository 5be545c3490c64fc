use Rattle.std.proofs.Common.{◌∙◌}
use Rattle.std.specs.BTreeMap.{is_at}
use Rattle.name_tree.specs.Entries.{byte_order}
use Rattle.name_tree.proofs.EntryLemmas.{lookup_shown}
use Rattle.name_tree.proofs.names.Names.get.Goals as goal

pub returns : goal.returns
returns c =
    rw (← c.self.view_is)
    (c.copied.ensures ∙ c.get.ensures.value ∙ lookup_shown (λ v. v.items) (is_at (byte_order c.args.name.now))
    c.self.inside.by_name.entries)
