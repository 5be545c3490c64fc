use Rattle.std.proofs.Common.{◌≡◌, length, take}
use Rattle.core_windows.proofs.slots.shorten.Given as goal

abbrev pub invariant-loop-right : goal.invariant-loop-right
invariant-loop-right l = take l.len l.right.items ≡ take l.len l.initial.right.items

abbrev pub decreases-loop-right : goal.decreases-loop-right
decreases-loop-right l = length l.right.items
