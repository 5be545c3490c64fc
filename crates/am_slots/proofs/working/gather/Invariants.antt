use Rattle.std.proofs.Common.{◌≡◌, length, vec_len, vec_capacity}
use Rattle.am_slots.specs.Working.{TakesInEach, slots_of}
use Rattle.am_slots.proofs.working.gather.Given as goal

abbrev pub invariant-loop-worker : goal.invariant-loop-worker
invariant-loop-worker g l = record {
  next : (goal.iterator-loop-worker g).can_next l.worker-iterator;
  ends : (goal.iterator-loop-worker g).is_finite l.worker-iterator;
  fits : g.C.Counter.fits l.desk l.seat;
  known : TakesInEach g.C.Counter.known (g.C.Counter.known l.fn.seat) l.yielded (g.C.Counter.known l.seat);
  slots : l.slots.items ≡ slots_of l.yielded;
  room : vec_capacity l.slots ≡ vec_capacity l.fn.slots;
  count : vec_len l.slots ≡ length l.yielded;
}
