-- Connections, and their sessions and fids.
use Rattle.std.specs.Prelude.{◌≡◌, ℕ, Bool, true, false, List, Option, Some, None, count_by, slice_index_or, slice_set}
use Rattle.core_parts.specs.declared.connection.Connection.{Connection}
use Rattle.core_parts.specs.declared.connection.Connection.TheVariants.{Undialed, Live, Ended}
use Rattle.core_parts.specs.declared.kind.Kind.{Kind}
use Rattle.core_parts.specs.declared.kind.Kind.TheVariants as kind
use Rattle.core_fids.specs.declared.effect.Effect.{Effect}
use Rattle.core_fids.specs.declared.effect.Effect.TheVariants as effect
use Rattle.fid_table.specs.Tables.{Tables, has_joined, HasJoined, after_join, after_put, after_take, after_version}

-- the state of a connection
abbrev pub connection_at : List Connection → ℕ → Connection
connection_at connections conn = slice_index_or connections conn Undialed

-- whether a connection is live
abbrev pub is_live : Connection → Bool
is_live Undialed = false
is_live Live = true
is_live (Ended why) = false

-- how many connections are live
abbrev pub live_count : List Connection → ℕ
live_count connections = count_by is_live connections

-- the connections after an event of this kind
abbrev pub connections_after : List Connection → Kind → List Connection
connections_after connections (kind.Dials conn) = slice_set connections conn Live
connections_after connections (kind.Asks conn tag) = connections
connections_after connections (kind.Ends conn why) = slice_set connections conn (Ended why)
connections_after connections (kind.Takes conn) = connections
connections_after connections kind.Acts = connections

-- ---- their users

-- the users with that of one connection anew, where there is one
abbrev pub with_user : List (List ℕ) → ℕ → Option (List ℕ) → List (List ℕ)
with_user users conn None = users
with_user users conn (Some user) = slice_set users conn user

-- the users after an event of this kind, which attaches this one to its connection, or none
abbrev pub users_after : List (List ℕ) → Kind → Option (List ℕ) → List (List ℕ)
users_after users (kind.Dials conn) user = users
users_after users (kind.Asks conn tag) user = with_user users conn user
users_after users (kind.Ends conn why) user = users
users_after users (kind.Takes conn) user = users
users_after users kind.Acts user = users

-- ---- their sessions

-- whether a connection was ever dialled
abbrev pub was_dialed : Connection → Bool
was_dialed Undialed = false
was_dialed Live = true
was_dialed (Ended why) = true

-- the connections that joined the sessions are those that were dialled
abbrev pub AreJoined : List Connection → Tables → Type 0
AreJoined connections tables = (conn : ℕ) → has_joined tables conn ≡ was_dialed (connection_at connections conn)

-- what the sessions have for an event of this kind: its connection joined, or is a new one
abbrev pub IsJoinedFor : Tables → Kind → Type 0
IsJoinedFor tables (kind.Dials conn) = has_joined tables conn ≡ false
IsJoinedFor tables (kind.Asks conn tag) = HasJoined tables conn
IsJoinedFor tables (kind.Ends conn why) = HasJoined tables conn
IsJoinedFor tables (kind.Takes conn) = Unit {0}
IsJoinedFor tables kind.Acts = Unit {0}

-- the connection of a message or a hang-up joined
abbrev pub IsOfJoined : Tables → Kind → Type 0
IsOfJoined tables (kind.Dials conn) = Unit {0}
IsOfJoined tables (kind.Asks conn tag) = HasJoined tables conn
IsOfJoined tables (kind.Ends conn why) = HasJoined tables conn
IsOfJoined tables (kind.Takes conn) = Unit {0}
IsOfJoined tables kind.Acts = Unit {0}

-- ---- what an event does to them: first what wants memory, and then what doesn't

-- the sessions with what an effect adds
abbrev pub grown_with : Tables → ℕ → Effect → Tables
grown_with tables conn effect.Nothing = tables
grown_with tables conn (effect.Begins msize) = tables
grown_with tables conn (effect.Puts number fid) = after_put tables conn number fid
grown_with tables conn (effect.Frees number) = tables

-- the sessions without what an effect ends
abbrev pub ended_with : Tables → ℕ → Effect → Tables
ended_with tables conn effect.Nothing = tables
ended_with tables conn (effect.Begins msize) = after_version tables conn msize
ended_with tables conn (effect.Puts number fid) = tables
ended_with tables conn (effect.Frees number) = after_take tables conn number

-- the sessions with what an event adds
abbrev pub grown : Tables → Kind → Effect → Tables
grown tables (kind.Dials conn) effect = after_join tables conn
grown tables (kind.Asks conn tag) effect = grown_with tables conn effect
grown tables (kind.Ends conn why) effect = tables
grown tables (kind.Takes conn) effect = tables
grown tables kind.Acts effect = tables
