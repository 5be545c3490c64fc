use Rattle.std.proofs.Common.{◌≡◌, drop}
use Rattle.am_server.specs.Served.{ending_of}
use Rattle.am_server.proofs.ending.ending_in.Given as goal

abbrev pub invariant-loop-event : goal.invariant-loop-event
invariant-loop-event l = ending_of (drop l.event-index l.journal) l.conn ≡ ending_of l.journal l.conn
