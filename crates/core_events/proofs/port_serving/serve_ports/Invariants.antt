use Rattle.std.proofs.Common.{◌≡◌, ◌++◌, length}
use Rattle.core_events.specs.Responses.{AreSaid}
use Rattle.core_events.specs.PortServing.{ports_served, ports_after_serving}
use Rattle.core_events.specs.PortSound.{ArePortsSound}
use Rattle.core_events.proofs.port_serving.serve_ports.Given as goal

abbrev pub invariant-loop-said : goal.invariant-loop-said
invariant-loop-said l = record {
  exact : l.said ++ ports_served l.ports.present ≡ ports_served l.fn.ports.present;
  rest : ports_after_serving l.ports.present ≡ ports_after_serving l.fn.ports.present;
  kept : l.ports.kept ≡ l.fn.ports.kept;
  said : AreSaid l.said;
  sound : ArePortsSound l.ports.present;
}

abbrev pub decreases-loop-said : goal.decreases-loop-said
decreases-loop-said l = length l.ports.present.reads
