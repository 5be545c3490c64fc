use Rattle.std.proofs.Common.{ap, ◌∙◌}
use Rattle.name_tree.proofs.EntryLemmas.{shown, inserted_shown}
use Rattle.name_tree.proofs.names.Names.insert.Goals as goal

pub returns-clause-ok : goal.returns-clause-ok
returns-clause-ok c =
    rw (← c.self.view_is)
    (ap (shown (λ v. v.items)) c.in_ok-insert.ensures.entries ∙ inserted_shown (λ v. v.items)
    c.self.inside.by_name.entries c.args.name c.args.number)
