use Rattle.std.proofs.Common.{◌≡◌, ◌++◌, map}
use Rattle.core_scene.specs.declared.deed.Deed.TheVariants.{Windows}
use Rattle.core_scene.proofs.changing.deeds_of.Given as goal

-- the deeds so far, and those of the changes that are left, are all
abbrev pub invariant-loop-change : goal.invariant-loop-change
invariant-loop-change l =
    (goal.iterator-loop-change).can_next l.change-iterator ×
    (goal.iterator-loop-change).is_finite l.change-iterator ×
    (l.deeds ++ map Windows l.change-iterator.rest.items ≡ map Windows l.initial.change-iterator.rest.items)
