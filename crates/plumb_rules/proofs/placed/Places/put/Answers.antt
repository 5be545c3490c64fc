use Rattle.plumb_rules.proofs.Placing.{found_put}
use Rattle.plumb_rules.proofs.placed.Places.put.Goals as goal

pub returns : goal.returns
returns c = λ other.
    rw (← c.self.view_is, c.in_ok-insert.ensures.entries, ← c.in_ok-name.ensures.items)
    (found_put (λ v. v.items) c.in_ok-name.name c.args.place c.self.inside.by_name.entries other)
