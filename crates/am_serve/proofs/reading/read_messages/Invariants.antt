use Rattle.std.proofs.Common.{◌≤◌}
use Rattle.am_serve.specs.Sending.{ReadSoFar}
use Rattle.am_serve.proofs.reading.read_messages.Given as goal

abbrev pub invariant-loop : goal.invariant-loop
invariant-loop g l = record {
  fits : g.C.Counter.fits l.at.desk.now l.seat;
  so_far : ReadSoFar g.C.Counter.answer l.at.conn (g.C.Counter.known l.fn.seat) (g.C.Counter.known l.seat) l.cutter
      l.budget (g.S.Source.told l.fn.source).bytes (g.S.Source.told l.source).bytes;
  later : (g.S.Source.told l.fn.source).faults ≤ (g.S.Source.told l.source).faults;
}
