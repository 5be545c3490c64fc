-- A message that reads `log` or `jobs`.
use Rattle.std.specs.Prelude.{◌+◌, ◌<◌, ◌^◌, ℕ, List, [], ◌∷◌, Option, Some, None}
use Rattle.ninep_types.specs.declared.message.RBody.{RBody}
use Rattle.ninep_types.specs.Limits.{rread_head}
use Rattle.fid_table.specs.Tables.{Tables, HasJoined}
use Rattle.acme_watch.specs.Watching.{WatchState}
use Rattle.acme_watch.specs.declared.types.WatchRead.{WatchRead}
use Rattle.core_fids.specs.declared.effect.Answer.{Answer}
use Rattle.core_fids.specs.declared.effect.Answer.TheVariants.{Says, Reads, ReadsPort, ReadsWatch}
use Rattle.core_fids.specs.declared.effect.WatchOpening.{WatchOpening}
use Rattle.core_events.specs.declared.response.Response.{Response}
use Rattle.core_events.specs.Responses.{watch_feed}
use Rattle.core_watch.specs.Asking.{watch_said, watch_read, tables_read_watch}
use Rattle.core_watch.specs.Serving.{opening_of}
use Rattle.core_watch.specs.declared.asking.ReadAt.{ReadAt}
use Rattle.core_parts.specs.declared.kind.Kind.{Kind}
use Rattle.core_parts.specs.declared.kind.Kind.TheVariants as kind

-- a read of one of the files, by a connection's tag
abbrev pub watch_asked : ℕ → ℕ → WatchOpening → ℕ → WatchRead
watch_asked conn tag opening count = record {
  file = opening.file;
  asker = record { conn = conn; tag = tag; opening = opening.opening; count = count };
}

-- the read of one of the files that an answer is at an entry, if it is one
abbrev pub watch_read_in : ℕ → ℕ → Option Answer → ℕ → Option ReadAt
watch_read_in conn tag None at = None
watch_read_in conn tag (Some (Says body)) at = None
watch_read_in conn tag (Some (Reads fid opening count)) at = None
watch_read_in conn tag (Some (ReadsPort fid opening count)) at = None
watch_read_in conn tag (Some (ReadsWatch fid opening count)) at =
    Some (record { fid = fid; read = watch_asked conn tag opening count; at = at })

-- the read that an event of this kind is, where it is one
abbrev pub watch_read_of : Kind → Option Answer → ℕ → Option ReadAt
watch_read_of (kind.Dials conn) answer at = None
watch_read_of (kind.Asks conn tag) answer at = watch_read_in conn tag answer at
watch_read_of (kind.Ends conn why) answer at = None
watch_read_of (kind.Takes conn) answer at = None
watch_read_of kind.Acts answer at = None

-- its answer will have a spelling, and its connection joined
pub record IsFollowable (tables : Tables) (read : ReadAt) : Type 0 where
  pub short : read.read.asker.count + rread_head < 2 ^ 32
  pub joined : HasJoined tables read.read.asker.conn

-- what is said to it
abbrev pub watch_response : WatchRead → RBody → Response
watch_response read body = record {
  conn = read.asker.conn;
  message = record { tag = read.asker.tag; body = body };
  feed = Some (watch_feed (opening_of read));
}

-- what is said to a read of one of the files, if it is answered
abbrev pub if_watch_said : WatchRead → Option RBody → List Response
if_watch_said read None = []
if_watch_said read (Some body) = watch_response read body ∷ []

-- what is said to the message's read of one of the files
abbrev pub followed_said : Tables → WatchState → Option ReadAt → List Response
followed_said tables watch None = []
followed_said tables watch (Some read) = if_watch_said read.read (watch_said tables watch read.read)

-- the files with what it takes, or with the read that waits
abbrev pub followed_watch : Tables → WatchState → Option ReadAt → WatchState
followed_watch tables watch None = watch
followed_watch tables watch (Some read) = watch_read tables watch read.read read.at

-- the sessions with the read, where it waits
abbrev pub followed_tables : Tables → WatchState → Option ReadAt → Tables
followed_tables tables watch None = tables
followed_tables tables watch (Some read) = tables_read_watch tables watch read.read read.fid
