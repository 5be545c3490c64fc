use Rattle.am_counter.specs.Known.{Looks}
use Rattle.am_serve.proofs.scripting.await_window.Given as goal

abbrev pub invariant-loop : goal.invariant-loop
invariant-loop g l = record {
  fits : g.C.Counter.fits l.script.desk.now l.seat;
  looks : Looks (g.C.Counter.known l.fn.seat) (g.C.Counter.known l.seat);
}
