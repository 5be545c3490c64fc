-- What the delivery of a plumb message does (plumb(6), plumber(4)).
use Rattle.std.specs.Prelude.{ℕ, Bool, true, false, List, [], ◌∷◌, ◌++◌, codes, Option, Some, None, option_map}
use Rattle.std.specs.Prelude.{if◌then◌else◌}
use Rattle.std.specs.Str.{bytes_eq}
use Rattle.am_text.specs.Utf8.{decode}
use Rattle.am_text.specs.declared.job.Job.{Job}
use Rattle.am_text.specs.declared.job.JobKind.TheVariants as kind
use Rattle.plumb_msg.specs.Spelling.{msg_text}
use Rattle.plumb_msg.specs.declared.message.PlumbMsg.{PlumbMsg}
use Rattle.plumb_rules.specs.Attributes.{attr_value}
use Rattle.plumb_rules.specs.Texts.{data_name}
use Rattle.plumb_rules.specs.declared.answer.Route.{Route}
use Rattle.plumb_rules.specs.declared.answer.Way.{Way}
use Rattle.plumb_rules.specs.declared.answer.Way.TheVariants as way
use Rattle.plumb_ports.specs.PortList.{edit_name, number_of}
use Rattle.plumb_ports.specs.PortsState.{PortsState, is_open}
use Rattle.core_scene.specs.declared.deed.Entry.{Entry}
use Rattle.core_scene.specs.declared.deed.Deed.{Deed}
use Rattle.core_scene.specs.declared.deed.Deed.TheVariants as deed
use Rattle.core_scene.specs.Scenes.{SceneState, then_}
use Rattle.core_actions.specs.declared.opening.Target.{Target}
use Rattle.core_actions.specs.Opening.{target_of, open_deeds}

-- ---- a command

-- a request to start a command in the message's directory; it comes from no window
abbrev pub start_job : PlumbMsg → List ℕ → Job
start_job m command = record { kind = kind.Start; window = 0; dir = decode m.wdir; command = command; input = [] }

-- the program that a rule starts, if it starts one
abbrev pub start_deeds : PlumbMsg → Way → List Deed
start_deeds m way.Port = []
start_deeds m (way.Start command) = deed.Requests (start_job m command) ∷ []
start_deeds m (way.Client command) = deed.Requests (start_job m command) ∷ []

-- ---- openings

-- whether the port of this number is open, if there is one
abbrev pub is_open_at : PortsState → Option ℕ → Bool
is_open_at ports None = false
is_open_at ports (Some port) = is_open ports port

-- whether the port of this name has an opening
abbrev pub is_open_named : PortsState → List ℕ → Bool
is_open_named ports name = is_open_at ports (number_of ports.ports name)

-- a copy to each opening of a port
abbrev pub copy_deeds : List ℕ → PlumbMsg → List Deed
copy_deeds name m = deed.Delivers name (msg_text m) false ∷ []

-- ---- port `edit`

-- the address that the attribute `addr` gives, if there is one
unfoldable pub address_in : PlumbMsg → Option (List ℕ)
address_in m = option_map decode (attr_value m.attrs (codes "addr"))

-- a file is opened, if the message names one
abbrev pub open_if_any : Entry → Option Target → Option (List ℕ) → SceneState → List Deed
open_if_any e None address s = []
open_if_any e (Some target) address s = open_deeds e target address s

-- what the data name, made whole with the message's directory, is opened with that address, if it is a
-- window, a file or a directory
abbrev pub shown_deeds : Entry → PlumbMsg → SceneState → List Deed
shown_deeds e m s = open_if_any e (target_of (data_name m) s) (address_in m) s

-- a copy for each opening, if there is one; nothing is kept
abbrev pub copies_if_open : List ℕ → PlumbMsg → SceneState → List Deed
copies_if_open name m s = if is_open_named s.ports name then copy_deeds name m else []

-- the editor opens what the data name, and then each opening gets a copy
abbrev pub edit_deeds : Entry → List ℕ → PlumbMsg → SceneState → List Deed
edit_deeds e name m s = then_ e (shown_deeds e m) (copies_if_open name m) s

-- ---- other ports

-- whether a command is started that is to take the message
abbrev pub is_client : Way → Bool
is_client way.Port = false
is_client (way.Start command) = false
is_client (way.Client command) = true

-- the message waits for an opening of the port, where it is to
abbrev pub keep_deeds : List ℕ → PlumbMsg → Way → List Deed
keep_deeds name m way = if is_client way then deed.Delivers name (msg_text m) true ∷ [] else []

-- to a port without openings: the command is started
abbrev pub closed_deeds : List ℕ → PlumbMsg → Way → List Deed
closed_deeds name m way = start_deeds m way ++ keep_deeds name m way

-- a message goes to a port
abbrev pub port_deeds : List ℕ → PlumbMsg → Way → SceneState → List Deed
port_deeds name m way s = if is_open_named s.ports name then copy_deeds name m else closed_deeds name m way

-- a message goes to a port, or opens a file where that is `edit`
abbrev pub named_deeds : Entry → List ℕ → PlumbMsg → Way → SceneState → List Deed
named_deeds e name m way s = if bytes_eq name edit_name then edit_deeds e name m s else port_deeds name m way s

-- ---- a route

-- to the port, or the command is started where there is none
abbrev pub deliver_to : Entry → Option (List ℕ) → PlumbMsg → Way → SceneState → List Deed
deliver_to e None m way s = start_deeds m way
deliver_to e (Some name) m way s = named_deeds e name m way s

-- a message goes where its rule says
abbrev pub deliver_deeds : Entry → Route → SceneState → List Deed
deliver_deeds e route s = deliver_to e route.port route.msg route.way s
