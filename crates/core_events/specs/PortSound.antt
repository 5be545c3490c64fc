-- What holds of the ports between the steps: the answer to each waiting read will have a spelling, and no opening is
-- numbered beyond those that ever joined.
use Rattle.std.specs.Prelude.{None, ◌≡◌, true}
use Rattle.std.specs.List.{list_all}
use Rattle.plumb_ports.specs.PortsState.{PortsState, next_of}
use Rattle.plumb_ports.specs.Laws.{AreNumbered}
use Rattle.core_events.specs.Sound.{is_small}

-- ports as the steps make them
pub record ArePortsSound (ports : PortsState) : Type 0 where
  pub small : list_all is_small ports.reads ≡ true
  pub numbered : AreNumbered ports

-- No waiting read can be answered.
abbrev pub ArePortsIdle : PortsState → Type 0
ArePortsIdle ports = next_of ports ≡ None
