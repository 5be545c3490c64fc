-- What ends openings of ports and their waiting reads without a reply of their own.
use Rattle.std.specs.Prelude.{ℕ, Option, Some, None}
use Rattle.std.specs.List.{fold}
use Rattle.fid_table.specs.declared.types.Fid.{Fid}
use Rattle.fid_table.specs.Tables.{Tables, fid_of, fids_of}
use Rattle.plumb_ports.specs.PortsState.{PortsState, after_cancel, after_leave}
use Rattle.core_fids.specs.Fids.{port_opening}
use Rattle.core_fids.specs.declared.effect.Effect.{Effect}
use Rattle.core_fids.specs.declared.effect.Effect.TheVariants as effect
use Rattle.core_fids.specs.declared.effect.EventChange.{EventChange}
use Rattle.core_fids.specs.declared.effect.EventChange.TheVariants as events

-- without this opening, if there is one
abbrev pub without_opening : PortsState → Option ℕ → PortsState
without_opening ports None = ports
without_opening ports (Some opening) = after_leave ports opening

-- a fid that is freed closes its opening of a port
abbrev pub without_fid : PortsState → ℕ × Fid → PortsState
without_fid ports f = without_opening ports (port_opening f.1)

-- the opening of a port of a fid that was looked up by its place
abbrev pub opening_at : Option (ℕ × Fid) → Option ℕ
opening_at None = None
opening_at (Some f) = port_opening f.1

-- all fids of a connection are freed
abbrev pub ports_without_fids : PortsState → Tables → ℕ → PortsState
ports_without_fids ports tables conn = fold without_fid ports (fids_of tables conn)

-- the opening of a fid of a port
abbrev pub opening_in : Option Fid → Option ℕ
opening_in None = None
opening_in (Some fid) = port_opening fid

-- the ports after an effect: openings go with their fids
abbrev pub ports_freed : PortsState → Tables → ℕ → Effect → PortsState
ports_freed ports tables conn effect.Nothing = ports
ports_freed ports tables conn (effect.Begins msize) = ports_without_fids ports tables conn
ports_freed ports tables conn (effect.Puts fid value) = ports
ports_freed ports tables conn (effect.Frees fid) = without_opening ports (opening_in (fid_of tables conn fid))

-- a flushed read waits no more
abbrev pub ports_cancelled : PortsState → ℕ → EventChange → PortsState
ports_cancelled ports conn events.Nothing = ports
ports_cancelled ports conn (events.Opens w) = ports
ports_cancelled ports conn (events.Joins port) = ports
ports_cancelled ports conn (events.Watches file) = ports
ports_cancelled ports conn (events.Cancels tag) = after_cancel ports conn tag
