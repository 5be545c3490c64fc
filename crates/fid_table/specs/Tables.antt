-- The connections that joined, the reads that wait, and what each call does to them.
use Rattle.std.specs.Prelude.{◌==◌, ◌&&◌, ℕ, Bool, List, [], ◌∷◌, ◌++◌, not, filter, find, nat_eq, Option, Some, None}
use Rattle.std.specs.Prelude.{IsTrue, if◌then◌else◌}
use Rattle.std.specs.List.{list_any}
use Rattle.std.specs.Map.{lookup}
use Rattle.am_journal.specs.declared.event.Format.{Format}
use Rattle.fid_table.specs.Fids.{with_fid, without_fid}
use Rattle.fid_table.specs.declared.types.Fid.{Fid}
use Rattle.fid_table.specs.declared.session.Session.{Session}
use Rattle.fid_table.specs.declared.session.Waiting.{Waiting}

-- format: that of the journal, by which the limits go
-- sessions: the connections in the order of joining, each with its msize, where a session is open, and its fids
-- waiting: the waiting reads of all connections, in the order of asking
pub record Tables : Type 0 where
  pub format : Format
  pub sessions : List Session
  pub waiting : List Waiting

-- no connection has joined
abbrev pub nothing : Format → Tables
nothing format = record { format = format; sessions = []; waiting = [] }

-- whether this is that connection's session
abbrev pub is_session : ℕ → Session → Bool
is_session conn s = s.conn == conn

-- whether a connection has joined
abbrev pub has_joined : Tables → ℕ → Bool
has_joined t conn = list_any (is_session conn) t.sessions

-- a connection has joined
abbrev pub HasJoined : Tables → ℕ → Type 0
HasJoined t conn = IsTrue (has_joined t conn)

-- what a session shows, and what is shown where there is none
abbrev pub msize_in : Option Session → Option ℕ
msize_in None = None
msize_in (Some s) = s.msize

-- the fids that a session shows
abbrev pub fids_in : Option Session → List (ℕ × Fid)
fids_in None = []
fids_in (Some s) = s.fids

-- the msize of a connection, where a session is open
abbrev pub msize_of : Tables → ℕ → Option ℕ
msize_of t conn = msize_in (find (is_session conn) t.sessions)

-- the fids of a connection, each with its number
abbrev pub fids_of : Tables → ℕ → List (ℕ × Fid)
fids_of t conn = fids_in (find (is_session conn) t.sessions)

-- the fid of a number, where it is in use
abbrev pub fid_of : Tables → ℕ → ℕ → Option Fid
fid_of t conn fid = lookup (nat_eq fid) (fids_of t conn)

-- whether this is that connection's read with that tag
abbrev pub is_waiting : ℕ → ℕ → Waiting → Bool
is_waiting conn tag w = (w.conn == conn) && (w.tag == tag)

-- whether it is a read of that connection
abbrev pub is_waiting_on : ℕ → Waiting → Bool
is_waiting_on conn w = w.conn == conn

-- connection, tag and fid
abbrev pub as_triple : Waiting → ℕ × ℕ × ℕ
as_triple w = (w.conn, w.tag, w.fid)

-- the sessions with that of one connection changed
abbrev pub on_session : (Session → Session) → ℕ → List Session → List Session
on_session change conn [] = []
on_session change conn (s ∷ ss) = if is_session conn s then change s ∷ ss else s ∷ on_session change conn ss

-- a session with this fid at a number
abbrev pub put_in : ℕ → Fid → Session → Session
put_in fid value s = record s { fids = with_fid s.fids fid value }

-- a session without a fid
abbrev pub taken_from : ℕ → Session → Session
taken_from fid s = record s { fids = without_fid s.fids fid }

-- a session that begins, with this msize
abbrev pub begun : Option ℕ → Session → Session
begun msize s = record s { msize = msize; fids = [] }

-- a connection more
abbrev pub after_join : Tables → ℕ → Tables
after_join t conn = record t { sessions = t.sessions ++ record { conn = conn; msize = None; fids = [] } ∷ [] }

-- a session with this msize, or none, no fids and no waiting reads
abbrev pub after_version : Tables → ℕ → Option ℕ → Tables
after_version t conn msize =
    record t {
      sessions = on_session (begun msize) conn t.sessions;
      waiting = filter (λ w. not (is_waiting_on conn w))
          t.waiting;
    }

-- a connection without a session
abbrev pub after_hangup : Tables → ℕ → Tables
after_hangup t conn = after_version t conn None

-- a fid put at a number
abbrev pub after_put : Tables → ℕ → ℕ → Fid → Tables
after_put t conn fid value = record t { sessions = on_session (put_in fid value) conn t.sessions }

-- a fid freed
abbrev pub after_take : Tables → ℕ → ℕ → Tables
after_take t conn fid = record t { sessions = on_session (taken_from fid) conn t.sessions }

-- a read waits
abbrev pub after_wait : Tables → ℕ → ℕ → ℕ → Tables
after_wait t conn tag fid = record t { waiting = t.waiting ++ record { conn = conn; tag = tag; fid = fid } ∷ [] }

-- a read waits no more
abbrev pub after_done : Tables → ℕ → ℕ → Tables
after_done t conn tag = record t { waiting = filter (λ w. not (is_waiting conn tag w)) t.waiting }
