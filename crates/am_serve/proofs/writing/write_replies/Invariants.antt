use Rattle.std.proofs.Common.{◌≤◌}
use Rattle.am_serve.specs.Writing.{Wrote}
use Rattle.am_serve.specs.declared.writing.WriteEnd.TheVariants as end
use Rattle.am_serve.proofs.writing.write_replies.Given as goal

abbrev pub invariant-loop : goal.invariant-loop
invariant-loop g l = record {
  fits : g.C.Counter.fits l.at.desk.now l.seat;
  wrote : Wrote g.C.Counter.unsent l.at.conn (g.C.Counter.known l.fn.seat) (g.C.Counter.known l.seat) end.Ended
      (g.K.Sink.told l.fn.sink).bytes (g.K.Sink.told l.sink).bytes;
  later : (g.K.Sink.told l.fn.sink).faults ≤ (g.K.Sink.told l.sink).faults;
}
