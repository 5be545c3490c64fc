use Rattle.name_tree.proofs.EntryLemmas.{ordered_shown}
use Rattle.name_tree.proofs.names.Names.len.Goals as goal

pub returns-clause-ordered : goal.returns-clause-ordered
returns-clause-ordered c =
    rw (← c.self.view_is) (ordered_shown (λ v. v.items) c.self.inside.by_name.entries c.len.ensures.ordered)
