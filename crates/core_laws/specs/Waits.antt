-- The reads that wait stand in two lists: in the sessions with the fid that they read, and with its opening in the
-- event files, in the ports, or in the files `log` and `jobs`. They are the same reads, in order.
use Rattle.std.specs.Prelude.{◌≡◌, ℕ, true, false, List, [], ◌∷◌, map, All, Option, Some, None}
use Rattle.std.specs.List.{list_any}
use Rattle.fid_table.specs.declared.types.Fid.{Fid}
use Rattle.fid_table.specs.declared.session.Waiting.{Waiting}
use Rattle.fid_table.specs.Tables.{Tables, fid_of, is_waiting}
use Rattle.wait_queue.specs.declared.types.Asker.{Asker}
use Rattle.acme_watch.specs.declared.types.WatchRead.{WatchRead}
use Rattle.core_fids.specs.declared.effect.WatchOpening.{WatchOpening}
use Rattle.core_fids.specs.Fids.{is_there, event_opening, port_opening}
use Rattle.core_events.specs.Responses.{feed_at}
use Rattle.core_parts.specs.States.{State}

-- a read that waits: its connection, its tag, and the opening that it reads
pub record WaitingRead (O : Type 0) : Type 0 where
  pub conn : ℕ
  pub tag : ℕ
  pub opening : O

-- as event files and ports tell it
abbrev pub told : Asker → WaitingRead ℕ
told r = record { conn = r.conn; tag = r.tag; opening = r.opening }

-- as `log` and `jobs` tell it
abbrev pub watch_told : WatchRead → WaitingRead WatchOpening
watch_told r = record {
  conn = r.asker.conn;
  tag = r.asker.tag;
  opening = record { file = r.file; opening = r.asker.opening };
}

-- the opening that a fid has, where it is in use
abbrev pub opening_by : {O : Type 0} → (Fid → Option O) → Option Fid → Option O
opening_by which None = None
opening_by which (Some fid) = which fid

-- with a read that waits on an opening, if it has one
abbrev pub with_read : {O : Type 0} → Option O → Waiting → List (WaitingRead O) → List (WaitingRead O)
with_read None w reads = reads
with_read (Some opening) w reads = record { conn = w.conn; tag = w.tag; opening = opening } ∷ reads

-- of these reads of the sessions those whose fid has such an opening
abbrev pub reads_in : {O : Type 0} → (Fid → Option O) → Tables → List Waiting → List (WaitingRead O)
reads_in which tables [] = []
reads_in which tables (w ∷ ws) = with_read (opening_by which (fid_of tables w.conn w.fid)) w (reads_in which tables ws)

-- the reads of event files that wait in the sessions
abbrev pub event_reads : Tables → List (WaitingRead ℕ)
event_reads tables = reads_in event_opening tables tables.waiting

-- the reads that wait on ports
abbrev pub port_reads : Tables → List (WaitingRead ℕ)
port_reads tables = reads_in port_opening tables tables.waiting

-- Each read that waits in the sessions is one of an event file, of a port, of `log` or of `jobs`. Those of event files
-- are the reads that wait in these, in the order of asking, and those of ports likewise.
pub record WaitsAreTied (s : State) : Type 0 where
  pub known : All (λ w. is_there (feed_at s.tables w) ≡ true) s.tables.waiting
  pub events : event_reads s.tables ≡ map told s.scene.book.reads
  pub ports : port_reads s.tables ≡ map told s.scene.ports.reads

-- no two of them have one connection and tag
abbrev pub AreApart : List Waiting → Type 0
AreApart [] = Unit {0}
AreApart (w ∷ ws) = (list_any (is_waiting w.conn w.tag) ws ≡ false) × AreApart ws
