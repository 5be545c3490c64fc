use Rattle.std.proofs.Common.{◌≡◌, ◌≤◌, ◌-◌, length}
use Rattle.std.specs.Prelude.{replicate}
use Rattle.am_text.specs.Twice.{both}
use Rattle.core_outputs.specs.Unsent.{nothing_unsent}
use Rattle.core_outputs.proofs.outputs.new_outputs.Given as goal

abbrev pub invariant-loop-alloc : goal.invariant-loop-alloc
invariant-loop-alloc l = record {
  few : length l.all.items ≤ 64;
  empty : l.all.items ≡ replicate (length l.all.items) (both nothing_unsent);
}

abbrev pub decreases-loop-alloc : goal.decreases-loop-alloc
decreases-loop-alloc l = 64 - length l.all.items
