use Rattle.std.proofs.Common.{◌≡◌, take, fold}
use Rattle.am_text.specs.Twice.{both}
use Rattle.fid_table.specs.Tables.{fids_of}
use Rattle.core_events.specs.PortClosing.{without_fid}
use Rattle.core_events.specs.PortSound.{ArePortsSound, ArePortsIdle}
use Rattle.core_events.proofs.port_closing.free_port_fids.Given as goal

abbrev pub invariant-loop-k : goal.invariant-loop-k
invariant-loop-k l = record {
  closed : l.ports ≡ both (fold without_fid l.fn.ports.present (take l.k (fids_of l.sessions.present l.conn)));
  sound : ArePortsSound l.fn.ports.present → ArePortsSound l.ports.present;
  idle : ArePortsIdle l.fn.ports.present → ArePortsIdle l.ports.present;
}
