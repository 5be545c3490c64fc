-- A message that reads a port of the plumber.
use Rattle.std.specs.Prelude.{◌+◌, ◌<◌, ◌^◌, ℕ, List, [], ◌∷◌, Option, Some, None}
use Rattle.ninep_types.specs.declared.message.RBody.{RBody}
use Rattle.fid_table.specs.Tables.{Tables, HasJoined}
use Rattle.wait_queue.specs.declared.types.Asker.{Asker}
use Rattle.plumb_ports.specs.PortsState.{PortsState}
use Rattle.core_fids.specs.declared.effect.Answer.{Answer}
use Rattle.core_fids.specs.declared.effect.Answer.TheVariants.{Says, Reads, ReadsPort, ReadsWatch}
use Rattle.core_events.specs.declared.response.Response.{Response}
use Rattle.core_events.specs.Responses.{port_feed}
use Rattle.core_events.specs.PortAsking.{port_said, ports_read, tables_read_port}
use Rattle.core_parts.specs.declared.kind.Kind.{Kind}
use Rattle.core_parts.specs.declared.kind.Kind.TheVariants as kind
use Rattle.ninep_types.specs.Limits.{rread_head}
use Rattle.core_steps.specs.declared.reading.PortRead.{PortRead}

-- the read of a port that an answer is, if it is one
abbrev pub port_read_in : ℕ → ℕ → Option Answer → Option PortRead
port_read_in conn tag None = None
port_read_in conn tag (Some (Says body)) = None
port_read_in conn tag (Some (Reads fid opening count)) = None
port_read_in conn tag (Some (ReadsPort fid opening count)) =
    Some (record { fid = fid; asker = record { conn = conn; tag = tag; opening = opening; count = count } })
port_read_in conn tag (Some (ReadsWatch fid opening count)) = None

-- the read that an event of this kind is, where it is one
abbrev pub port_read_of : Kind → Option Answer → Option PortRead
port_read_of (kind.Dials conn) answer = None
port_read_of (kind.Asks conn tag) answer = port_read_in conn tag answer
port_read_of (kind.Ends conn why) answer = None
port_read_of (kind.Takes conn) answer = None
port_read_of kind.Acts answer = None

-- its answer will have a spelling, and its connection joined
pub record IsReadable (tables : Tables) (read : PortRead) : Type 0 where
  pub short : read.asker.count + rread_head < 2 ^ 32
  pub joined : HasJoined tables read.asker.conn

-- what is said to it
abbrev pub port_response : Asker → RBody → Response
port_response asker body = record {
  conn = asker.conn;
  message = record { tag = asker.tag; body = body };
  feed = Some (port_feed asker.opening);
}

-- what is said to a read of a port, if it is answered
abbrev pub if_port_said : Asker → Option RBody → List Response
if_port_said asker None = []
if_port_said asker (Some body) = port_response asker body ∷ []

-- what is said to the message's read of a port
abbrev pub asked_said : Tables → PortsState → Option PortRead → List Response
asked_said tables ports None = []
asked_said tables ports (Some read) = if_port_said read.asker (port_said tables ports read.asker)

-- the ports with what it takes, or with the read that waits
abbrev pub asked_ports : Tables → PortsState → Option PortRead → PortsState
asked_ports tables ports None = ports
asked_ports tables ports (Some read) = ports_read tables ports read.asker

-- the sessions with the read, where it waits
abbrev pub asked_tables : Tables → PortsState → Option PortRead → Tables
asked_tables tables ports None = tables
asked_tables tables ports (Some read) = tables_read_port tables ports read.asker read.fid
