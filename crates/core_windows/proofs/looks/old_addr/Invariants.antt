use Rattle.std.proofs.Common.{◌≡◌, ◌<◌, length}
use Rattle.core_windows.specs.Shapes.{shapes_of}
use Rattle.core_windows.specs.Trail.{kept_addr, all_undone, CanGoBack}
use Rattle.core_windows.proofs.looks.old_addr.Given as goal

abbrev pub invariant-loop-step : goal.invariant-loop-step
invariant-loop-step l = record {
  can : CanGoBack l.rest (shapes_of l.panes);
  within : l.at < length (all_undone l.rest (shapes_of l.panes));
  same : kept_addr l.rest (shapes_of l.panes) l.at ≡ kept_addr l.trail (shapes_of l.panes) l.at;
}

abbrev pub decreases-loop-step : goal.decreases-loop-step
decreases-loop-step l = length l.rest
