-- What the messages of a connection are served from.
use Rattle.std.specs.Prelude.{ℕ, Bool, List, Option}
use Rattle.acme_tree.specs.declared.node.World.{World}
use Rattle.fid_table.specs.declared.types.Fid.{Fid}
use Rattle.fid_table.specs.Tables.{Tables, fid_of}
use Rattle.core_windows.specs.Windows.{Window, world_with}
use Rattle.core_fids.specs.Plumbers.{Plumber, plumber_of}
use Rattle.core_fids.specs.declared.server.Opened.{Opened}
use Rattle.core_fids.specs.declared.server.Server.{Server}

-- the sessions and fids of all connections, the windows, by number from 1, whether `log` and `jobs` are served, what is
-- seen of the plumber, how many openings were made, and the number of the connection
pub record ServerState : Type 0 where
  pub tables : Tables
  pub windows : List (Option Window)
  pub watched : Bool
  pub plumber : Plumber
  pub opened : Opened
  pub conn : ℕ

-- what the editor's tree is made of
abbrev pub world_by : ServerState → World
world_by server = world_with server.watched server.windows

-- the fid that a number names
abbrev pub fid_by : ServerState → ℕ → Option Fid
fid_by server number = fid_of server.tables server.conn number

-- ---- in a server

-- the sessions and fids of all connections
abbrev pub tables_in : Server → Tables
tables_in server = server.sessions.now.present

-- the windows, by number from 1
abbrev pub windows_in : Server → List (Option Window)
windows_in server = server.windows.now.present

-- whether `log` and `jobs` are served
abbrev pub watched_in : Server → Bool
watched_in server = server.windows.now.watched

-- what the editor's tree is made of
abbrev pub world_in : Server → World
world_in server = world_with (watched_in server) (windows_in server)

-- what they see of the plumber
abbrev pub plumber_in : Server → Plumber
plumber_in server = plumber_of server.rules.now.present server.ports.now.present

-- all of it
abbrev pub server_in : Server → ServerState
server_in server = record {
  tables = tables_in server;
  windows = windows_in server;
  watched = watched_in server;
  plumber = plumber_in server;
  opened = server.opened;
  conn = server.conn;
}
