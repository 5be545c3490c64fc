use Rattle.std.proofs.Common.{◌≡◌, vec_len}
use Rattle.core_windows.specs.Shapes.{shapes_of, seen_in}
use Rattle.core_windows.proofs.places.settle_all.Given as goal

abbrev pub invariant-loop-step : goal.invariant-loop-step
invariant-loop-step l = seen_in (shapes_of l.panes.items) ≡ seen_in (shapes_of l.initial.panes.items)

abbrev pub decreases-loop-step : goal.decreases-loop-step
decreases-loop-step l = vec_len l.trail
