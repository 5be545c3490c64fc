use Rattle.am_counter.specs.Known.{Looks}
use Rattle.am_serve.specs.Script.{HaveEnded}
use Rattle.am_serve.proofs.scripting.have_ended.Given as goal

abbrev pub invariant-loop-conn : goal.invariant-loop-conn
invariant-loop-conn g l = record {
  fits : g.C.Counter.fits l.desk l.seat;
  looks : Looks (g.C.Counter.known l.fn.seat) (g.C.Counter.known l.seat);
  ended : HaveEnded l.conn (g.C.Counter.known l.seat).seen;
}
