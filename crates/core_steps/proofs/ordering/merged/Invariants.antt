use Rattle.std.proofs.Common.{◌≡◌, ◌++◌, length}
use Rattle.core_steps.specs.Order.{merged, place_in}
use Rattle.core_steps.proofs.ordering.merged.Given as goal

abbrev pub invariant-others : goal.invariant-others
invariant-others l = l.all ++ merged (place_in l.sessions.present) l.others.items l.row.items
    ≡ merged (place_in l.sessions.present) l.fn.others l.fn.row

abbrev pub decreases-others : goal.decreases-others
decreases-others l = length l.others.items
