use Rattle.std.proofs.Common.{◌≡◌, vec_len}
use Rattle.plumb_ports.specs.Undo.{all_undone}
use Rattle.plumb_ports.proofs.undo.take_all_back.Given as goal

abbrev pub invariant-loop-step : goal.invariant-loop-step
invariant-loop-step l = all_undone l.trail.items l.ports ≡ all_undone l.initial.trail.items l.initial.ports

abbrev pub decreases-loop-step : goal.decreases-loop-step
decreases-loop-step l = vec_len l.trail
