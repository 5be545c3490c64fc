use Rattle.plumb_msg.proofs.NameLemmas.{found_inserted}
use Rattle.plumb_msg.proofs.names.Names.put.Goals as goal

pub returns : goal.returns
returns c = λ other.
    rw (← c.self.view_is, c.in_ok-insert.ensures.keys, ← c.in_ok-name.ensures.items)
    (found_inserted (λ v. v.items) c.in_ok-name.name c.self.inside.all.keys other)
