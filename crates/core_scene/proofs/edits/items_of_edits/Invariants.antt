use Rattle.std.proofs.Common.{◌≡◌, ◌++◌, length}
use Rattle.core_scene.specs.NewItems.{items_of_edits}
use Rattle.core_scene.proofs.edits.items_of_edits.Given as goal

abbrev pub invariant-loop-rest : goal.invariant-loop-rest
invariant-loop-rest l = record {
  told : l.items ++ items_of_edits l.origin l.rest ≡ items_of_edits l.origin l.edits;
}

abbrev pub decreases-loop-rest : goal.decreases-loop-rest
decreases-loop-rest l = length l.rest
