use Rattle.std.proofs.Common.{◌≡◌, ◌+◌, ◌*◌, [], length, vec_len, vec_capacity}
use Rattle.am_slots.specs.Working.{slots_of}
use Rattle.am_slots.proofs.Hired.{AreReady}
use Rattle.am_slots.proofs.working.hire.Given as goal

abbrev pub invariant-loop-slot : goal.invariant-loop-slot
invariant-loop-slot g l = record {
  next : (goal.iterator-loop-slot g).can_next l.slot-iterator;
  ends : (goal.iterator-loop-slot g).is_finite l.slot-iterator;
  fits : g.C.Counter.fits l.desk l.seat;
  parts : (g.C.Counter.known l.seat).parts + 2 * length l.yielded ≡ 2 * length l.fn.slots + 1;
  mine : (g.C.Counter.known l.seat).mine ≡ [];
  ended : (g.C.Counter.known l.seat).ended ≡ [];
  seen : (g.C.Counter.known l.seat).seen ≡ (g.C.Counter.known l.fn.seat).seen;
  slots : slots_of l.workers.items ≡ l.yielded;
  ready : AreReady (g.C.Counter.fits l.desk) g.C.Counter.known l.yielded l.workers.items;
  room : vec_capacity l.workers ≡ vec_capacity l.fn.workers;
  count : vec_len l.workers ≡ length l.yielded;
}
