-- Waiting reads of ports that can be answered now are answered, the oldest first.
use Rattle.std.specs.Prelude.{ℕ, zero, suc, List, [], ◌∷◌, length, Option, Some, None}
use Rattle.ninep_types.specs.declared.message.RBody.TheVariants as r
use Rattle.wait_queue.specs.declared.types.Asker.{Asker}
use Rattle.wait_queue.specs.declared.types.Piece.{Piece}
use Rattle.plumb_ports.specs.PortsState.{PortsState, served_of, after_serve}
use Rattle.core_events.specs.declared.response.Response.{Response}
use Rattle.core_events.specs.Responses.{port_feed}

-- the answer to a read that waited
abbrev pub response_to : Asker × Piece → Response
response_to served = record {
  conn = served.0.conn;
  message = record
      { tag = served.0.tag; body = r.Read served.1.bytes };
  feed = Some (port_feed served.0.opening);
}

-- the answer to the next one, and what comes behind it
abbrev pub then_served : Option (Asker × Piece) → List Response → List Response
then_served None rest = []
then_served (Some served) rest = response_to served ∷ rest

-- at most so many reads are answered
unfoldable pub served_most : ℕ → PortsState → List Response
served_most zero ports = []
served_most (suc n) ports = then_served (served_of ports) (served_most n (after_serve ports))

-- so many times the oldest read that can be answered was
unfoldable pub after_serving_most : ℕ → PortsState → PortsState
after_serving_most zero ports = ports
after_serving_most (suc n) ports = after_serving_most n (after_serve ports)

-- until none can be: each answer leaves a read less
abbrev pub ports_served : PortsState → List Response
ports_served ports = served_most (length ports.reads) ports

-- each read that can be answered was
abbrev pub ports_after_serving : PortsState → PortsState
ports_after_serving ports = after_serving_most (length ports.reads) ports
