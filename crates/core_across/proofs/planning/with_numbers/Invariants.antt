use Rattle.std.proofs.Common.{◌≡◌, ◌++◌, map}
use Rattle.core_across.specs.Plans.{numbered}
use Rattle.core_across.proofs.planning.with_numbers.Given as goal

-- the plans so far, and those that are left, are all
abbrev pub invariant-loop-at_place : goal.invariant-loop-at_place
invariant-loop-at_place l =
    (goal.iterator-loop-at_place).can_next l.at_place-iterator ×
    (goal.iterator-loop-at_place).is_finite l.at_place-iterator ×
    (l.all ++ map (numbered l.windows.present) l.at_place-iterator.rest.items
    ≡ map (numbered l.windows.present) l.initial.at_place-iterator.rest.items)
