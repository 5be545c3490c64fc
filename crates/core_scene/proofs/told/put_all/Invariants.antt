use Rattle.std.proofs.Common.{◌≡◌, ◌++◌, map}
use Rattle.core_scene.specs.Told.{of_window}
use Rattle.core_scene.proofs.told.put_all.Given as goal

-- the items that are left, put behind those that are there, are all of them
abbrev pub invariant-loop-item : goal.invariant-loop-item
invariant-loop-item l =
    (goal.iterator-loop-item).can_next l.item-iterator ×
    (goal.iterator-loop-item).is_finite l.item-iterator ×
    (l.items ++ map (of_window l.window) l.item-iterator.rest.items ≡ l.initial.items ++ map (of_window l.window)
    l.initial.item-iterator.rest.items)
