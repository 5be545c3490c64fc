use Rattle.std.proofs.Common.{◌≡◌, drop}
use Rattle.wait_queue.proofs.pending.PendingItems.keep.Given as goal

-- the ones popped so far are gone from the front
abbrev pub invariant-loop : goal.invariant-loop
invariant-loop l = l.self-inside.all.items ≡ drop l.counter l.initial.self-inside.all.items
