-- Where a plumb message goes, and why it isn't delivered there (plumb(6), plumber(4)).
use Rattle.std.specs.Prelude.{◌≡◌, ℕ, true, List, Option, Some, None, if◌then◌else◌}
use Rattle.std.specs.Str.{bytes_eq}
use Rattle.plumb_msg.specs.Spelling.{can_spell}
use Rattle.plumb_msg.specs.declared.message.PlumbMsg.{PlumbMsg}
use Rattle.plumb_rules.specs.Routes.{route_of}
use Rattle.plumb_rules.specs.declared.answer.Route.{Route}
use Rattle.plumb_rules.specs.declared.answer.Way.{Way}
use Rattle.plumb_rules.specs.declared.answer.Way.TheVariants as way
use Rattle.plumb_ports.specs.PortList.{edit_name, number_of}
use Rattle.plumb_ports.specs.PortsState.{PortsState, is_open, is_full}
use Rattle.core_scene.specs.Scenes.{SceneState}
use Rattle.core_plumb.specs.declared.refusal.PlumbRefusal.{PlumbRefusal}
use Rattle.core_plumb.specs.declared.refusal.PlumbRefusal.TheVariants as refusal

-- the route of a message by the accepted rules; one that can't be written has none
abbrev pub route_in : PlumbMsg → SceneState → Option Route
route_in m s = if can_spell m then route_of s.files s.rules.sets m else None

-- a route whose message can be written
abbrev pub IsSpelled : Route → Type 0
IsSpelled route = can_spell route.msg ≡ true

-- ---- why it isn't delivered

-- to a port without openings: only where a command is started that is to take it, it waits for an
-- opening, while there is room
abbrev pub closed_refusal : Way → ℕ → PortsState → Option PlumbRefusal
closed_refusal way.Port port ports = Some refusal.PortNotOpen
closed_refusal (way.Start command) port ports = None
closed_refusal (way.Client command) port ports = if is_full ports port then Some refusal.PortQueueFull else None

-- why a message doesn't go to the port of this number
abbrev pub numbered_refusal : Way → Option ℕ → PortsState → Option PlumbRefusal
numbered_refusal way None ports = Some refusal.PortNotOpen
numbered_refusal way (Some port) ports = if is_open ports port then None else closed_refusal way port ports

-- port `edit` takes any message, since the editor itself reads it
abbrev pub named_refusal : Way → List ℕ → PortsState → Option PlumbRefusal
named_refusal way name ports =
    if bytes_eq name edit_name then None else numbered_refusal way (number_of ports.ports name) ports

-- without a port there is only a command to be started
abbrev pub port_refusal : Way → Option (List ℕ) → PortsState → Option PlumbRefusal
port_refusal way None ports = None
port_refusal way (Some name) ports = named_refusal way name ports

-- why a message isn't delivered
abbrev pub route_refusal : Option Route → PortsState → Option PlumbRefusal
route_refusal None ports = Some refusal.NoMatchingRule
route_refusal (Some route) ports = port_refusal route.way route.port ports

-- Why a message isn't delivered, if it isn't.
abbrev pub plumb_refusal : PlumbMsg → SceneState → Option PlumbRefusal
plumb_refusal m s = route_refusal (route_in m s) s.ports
