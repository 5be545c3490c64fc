-- What is said to connections, each time in answer to the message of a tag.
use Rattle.std.specs.Prelude.{ℕ, List, map, All, Option, Some, None, option_map}
use Rattle.ninep_types.specs.declared.message.RBody.TheVariants as r
use Rattle.acme_watch.specs.declared.types.WatchFile.{WatchFile}
use Rattle.acme_watch.specs.declared.types.WatchFile.TheVariants as file
use Rattle.fid_table.specs.declared.types.Fid.{Fid}
use Rattle.fid_table.specs.declared.session.Waiting.{Waiting}
use Rattle.fid_table.specs.Tables.{Tables, fid_of}
use Rattle.core_fids.specs.declared.effect.WatchOpening.{WatchOpening}
use Rattle.core_fids.specs.declared.refusal.Refusal.{Refusal}
use Rattle.core_fids.specs.Done.{IsSent}
use Rattle.core_fids.specs.Fids.{event_opening, port_opening, watch_opening}
use Rattle.core_fids.specs.Refusals.{refusal_text}
use Rattle.core_events.specs.declared.response.Feed.{Feed}
use Rattle.core_events.specs.declared.response.FeedKind.{FeedKind}
use Rattle.core_events.specs.declared.response.FeedKind.TheVariants.{Events, Port, Log, Jobs}
use Rattle.core_events.specs.declared.response.Response.{Response}

-- an opening of an event file
abbrev pub event_feed : ℕ → Feed
event_feed opening = record { kind = Events; opening = opening }

-- an opening of a port
abbrev pub port_feed : ℕ → Feed
port_feed opening = record { kind = Port; opening = opening }

-- what an opening of this file gives
abbrev pub watch_kind : WatchFile → FeedKind
watch_kind file.Log = Log
watch_kind file.Jobs = Jobs

-- an opening of `log` or of `jobs`
abbrev pub watch_feed : WatchOpening → Feed
watch_feed o = record { kind = watch_kind o.file; opening = o.opening }

-- the opening is one of an event file, one of a port, or one of `log` or `jobs`
abbrev pub feed_of : Option ℕ → Option ℕ → Option WatchOpening → Option Feed
feed_of (Some opening) port watch = Some (event_feed opening)
feed_of None (Some opening) watch = Some (port_feed opening)
feed_of None None watch = option_map watch_feed watch

-- what reads of a fid read, where they may wait
abbrev pub feed_in : Option Fid → Option Feed
feed_in None = None
feed_in (Some fid) = feed_of (event_opening fid) (port_opening fid) (watch_opening fid)

-- what a waiting read is fed by
abbrev pub feed_at : Tables → Waiting → Option Feed
feed_at tables w = feed_in (fid_of tables w.conn w.fid)

-- each has a spelling
abbrev pub IsSaid : Response → Type 0
IsSaid response = IsSent response.message.body

-- each can be said
abbrev pub AreSaid : List Response → Type 0
AreSaid responses = All IsSaid responses

-- a waiting read is refused
abbrev pub error : Refusal → Option Feed → ℕ → ℕ → Response
error refusal feed conn tag = record {
  conn = conn;
  message = record
      { tag = tag; body = r.Error (refusal_text refusal) };
  feed = feed;
}

-- the refusal of these waiting reads
abbrev pub errors : Refusal → Tables → List Waiting → List Response
errors refusal tables ws = map (λ w. error refusal (feed_at tables w) w.conn w.tag) ws
