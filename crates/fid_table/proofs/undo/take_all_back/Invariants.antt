use Rattle.std.proofs.Common.{◌≡◌, vec_len}
use Rattle.fid_table.specs.Undo.{all_undone}
use Rattle.fid_table.proofs.undo.take_all_back.Given as goal

abbrev pub invariant-loop-step : goal.invariant-loop-step
invariant-loop-step l = all_undone l.trail.items l.table ≡ all_undone l.initial.trail.items l.initial.table

abbrev pub decreases-loop-step : goal.decreases-loop-step
decreases-loop-step l = vec_len l.trail
