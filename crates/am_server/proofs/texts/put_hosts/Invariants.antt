use Rattle.std.proofs.Common.{◌≡◌, ◌≤◌, take}
use Rattle.am_base.specs.Seen.{seen}
use Rattle.am_base.specs.Written.{IsWhole}
use Rattle.am_server.specs.Texts.{host_text}
use Rattle.am_server.proofs.texts.put_hosts.Given as goal

abbrev pub invariant-loop-slot : goal.invariant-loop-slot
invariant-loop-slot g l = record {
  number : l.number ≡ l.slot-index;
  put : IsWhole (seen (g.O.Sink.told l.fn.output) (g.O.Sink.told l.output)) (host_text 0 (take l.slot-index l.slots));
  later : (g.O.Sink.told l.fn.output).faults ≤ (g.O.Sink.told l.output).faults;
}
