use Rattle.std.proofs.Common.{◌≡◌, vec_len}
use Rattle.name_tree.specs.Undo.{all_undone}
use Rattle.name_tree.proofs.growing.Growing.back.Given as goal

abbrev pub invariant-loop-step : goal.invariant-loop-step
invariant-loop-step l = all_undone l.self.trail.items l.self.places ≡ all_undone l.initial.self.trail.items
    l.initial.self.places

abbrev pub decreases-loop-step : goal.decreases-loop-step
decreases-loop-step l = vec_len l.self.trail
