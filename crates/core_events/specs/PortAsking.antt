-- Opening and reading ports.
use Rattle.std.specs.Prelude.{ℕ, ◌+◌, Bool, ◌&&◌, not, nat_lt, length, Option, Some, None, if◌then◌else◌}
use Rattle.ninep_types.specs.declared.message.RBody.{RBody}
use Rattle.ninep_types.specs.declared.message.RBody.TheVariants as r
use Rattle.fid_table.specs.Tables.{Tables}
use Rattle.wait_queue.specs.declared.types.Asker.{Asker}
use Rattle.wait_queue.specs.declared.types.Asked.{Asked}
use Rattle.wait_queue.specs.declared.types.Asked.TheVariants.{Now, Waits}
use Rattle.plumb_ports.specs.PortsState.{PortsState, has_joined, after_join, read_waits, asked_of, after_ask}
use Rattle.core_fids.specs.declared.effect.EventChange.{EventChange}
use Rattle.core_fids.specs.declared.effect.EventChange.TheVariants as events
use Rattle.core_fids.specs.declared.refusal.Refusal.{Refusal}
use Rattle.core_fids.specs.declared.refusal.Refusal.TheVariants as refusal
use Rattle.core_fids.specs.Refusals.{refusal_text}
use Rattle.core_events.specs.Asking.{reads_are_full, waits_unless}
use Rattle.wait_queue.specs.Limits.{max_openings}

-- ---- an opening

-- openings are numbered from 1 over all ports, in the order of joining
abbrev pub next_opening : PortsState → ℕ
next_opening ports = ports.joined + 1

-- the port is there, one opening more can be counted, and none has its number
abbrev pub can_join : PortsState → ℕ → Bool
can_join ports port = nat_lt port (length ports.ports) && nat_lt ports.joined max_openings
    && not (has_joined ports (next_opening ports))

-- the ports after an opening, if a message opens one
abbrev pub joined_with : PortsState → EventChange → PortsState
joined_with ports events.Nothing = ports
joined_with ports (events.Opens w) = ports
joined_with ports (events.Joins port) = if can_join ports port then after_join ports port (next_opening ports) else
    ports
joined_with ports (events.Watches file) = ports
joined_with ports (events.Cancels tag) = ports

-- ---- a read

-- A read is of an opening that is there. A connection with as many reads as may wait can't have another one that waits.
abbrev pub read_refusal : Tables → PortsState → Asker → Option Refusal
read_refusal tables ports asker = if not (has_joined ports asker.opening) then Some refusal.FidIsNotOpen
    else (if read_waits ports asker && reads_are_full tables asker.conn then Some refusal.TooManyWaitingReads else None)

-- what is said to a read at once; none where it waits
abbrev pub said_unless : Option Refusal → Asked → Option RBody
said_unless (Some refusal) asked = Some (r.Error (refusal_text refusal))
said_unless None (Now piece) = Some (r.Read piece.bytes)
said_unless None Waits = None

-- the ports after a read, which is refused or not
abbrev pub read_unless : Option Refusal → PortsState → Asker → PortsState
read_unless (Some refusal) ports asker = ports
read_unless None ports asker = after_ask ports asker

-- what is said to the read at once; none where it waits
abbrev pub port_said : Tables → PortsState → Asker → Option RBody
port_said tables ports asker = said_unless (read_refusal tables ports asker) (asked_of ports asker)

-- the ports after a read
abbrev pub ports_read : Tables → PortsState → Asker → PortsState
ports_read tables ports asker = read_unless (read_refusal tables ports asker) ports asker

-- a read of this fid waits where nothing is said to it
abbrev pub tables_read_port : Tables → PortsState → Asker → ℕ → Tables
tables_read_port tables ports asker fid = waits_unless (port_said tables ports asker) tables asker.conn asker.tag fid
