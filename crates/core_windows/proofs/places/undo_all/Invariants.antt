use Rattle.std.proofs.Common.{◌≡◌, vec_len}
use Rattle.core_windows.specs.Shapes.{shapes_of}
use Rattle.core_windows.specs.Trail.{all_undone, CanGoBack}
use Rattle.core_windows.proofs.places.undo_all.Given as goal

abbrev pub invariant-loop-step : goal.invariant-loop-step
invariant-loop-step l = record {
  can : CanGoBack l.trail.items (shapes_of l.panes.items);
  shapes : all_undone l.trail.items (shapes_of l.panes.items) ≡ all_undone l.initial.trail.items
      (shapes_of l.initial.panes.items);
}

abbrev pub decreases-loop-step : goal.decreases-loop-step
decreases-loop-step l = vec_len l.trail
