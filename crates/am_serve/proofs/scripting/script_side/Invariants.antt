use Rattle.std.proofs.Common.{◌≤◌, ◌+◌, length}
use Rattle.am_serve.proofs.Passing.{PassedSoFar, lines_asked}
use Rattle.am_serve.proofs.scripting.script_side.Given as goal

abbrev pub invariant-loop-rest : goal.invariant-loop-rest
invariant-loop-rest g l = record {
  fits : g.C.Counter.fits l.script.desk.now l.seat;
  count : l.line + length l.rest ≤ length l.script.lines.now + 2;
  so_far : PassedSoFar g.C.Counter.enabled g.C.Counter.answer (g.C.Counter.known l.fn.seat) (g.C.Counter.known l.seat)
      l.script.lines.now (lines_asked l.rest) l.line;
}

abbrev pub decreases-loop-rest : goal.decreases-loop-rest
decreases-loop-rest g l = length l.rest
