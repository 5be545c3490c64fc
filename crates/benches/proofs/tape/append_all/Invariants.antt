use Rattle.std.proofs.Common.{◌≡◌, false}
use Rattle.turn_lock.specs.Words.{lock_of, view_of}
use Rattle.benches.proofs.tape.append_all.Given as goal

abbrev pub invariant-loop-number : goal.invariant-loop-number
invariant-loop-number g l =
    (lock_of l.seat ≡ lock_of l.initial.seat)
    × ((view_of l.seat).turn ≡ false)
    × ((view_of l.seat).parts ≡ (view_of l.initial.seat).parts)
