use Rattle.am_counter.specs.Known.{Looks}
use Rattle.am_serve.proofs.sending.wait_for_room.Given as goal

abbrev pub invariant-loop : goal.invariant-loop
invariant-loop g l = record {
  fits : g.C.Counter.fits l.at.desk.now l.seat;
  looks : Looks (g.C.Counter.known l.fn.seat) (g.C.Counter.known l.seat);
}
