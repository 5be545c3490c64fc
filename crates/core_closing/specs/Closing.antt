-- What a step ends.
use Rattle.std.specs.Prelude.{ℕ, List}
use Rattle.fid_table.specs.Tables.{Tables, after_hangup}
use Rattle.event_book.specs.BookState.{BookState}
use Rattle.plumb_ports.specs.PortsState.{PortsState}
use Rattle.acme_watch.specs.Watching.{WatchState}
use Rattle.core_scene.specs.Scenes.{deleted_by}
use Rattle.core_events.specs.declared.response.Response.{Response}
use Rattle.core_events.specs.Closing.{written_back, freed, cancelled, closed_with, without_fids}
use Rattle.core_events.specs.Waits.{ended, without_cancelled}
use Rattle.core_events.specs.PortClosing.{ports_freed, ports_cancelled, ports_without_fids}
use Rattle.core_watch.specs.Answering.{answered_with}
use Rattle.core_watch.specs.Closing.{watch_freed, watch_cancelled, watch_without_fids}
use Rattle.core_parts.specs.declared.kind.Kind.{Kind}
use Rattle.core_parts.specs.declared.kind.Kind.TheVariants as kind
use Rattle.core_parts.specs.Connections.{ended_with}
use Rattle.core_parts.specs.Doing.{Doing}
use Rattle.core_outputs.specs.Unsent.{Unsent, taken}

-- the openings of fids that a message frees, and the read that it cancels
abbrev pub left_book : ℕ → Tables → Kind → Doing → BookState → BookState
left_book at tables (kind.Dials conn) d book = book
left_book at tables (kind.Asks conn tag) d book = cancelled (freed at book tables conn d.effect) conn d.events
left_book at tables (kind.Ends conn why) d book = without_fids at book tables conn
left_book at tables (kind.Takes conn) d book = book
left_book at tables kind.Acts d book = book

-- first the item that is written back, and at last the event files of the windows that are deleted
abbrev pub closed_book : ℕ → Tables → Kind → Doing → BookState → BookState
closed_book at tables k d book =
    closed_with at (left_book at tables k d (written_back at book d.back)) (deleted_by d.deeds)

-- the same of ports
abbrev pub left_ports : Tables → Kind → Doing → PortsState → PortsState
left_ports tables (kind.Dials conn) d ports = ports
left_ports tables (kind.Asks conn tag) d ports = ports_cancelled (ports_freed ports tables conn d.effect) conn d.events
left_ports tables (kind.Ends conn why) d ports = ports_without_fids ports tables conn
left_ports tables (kind.Takes conn) d ports = ports
left_ports tables kind.Acts d ports = ports

-- the same of `log` and `jobs`: what an opening took and didn't answer is lost at this entry
abbrev pub left_watch : ℕ → Tables → Kind → Doing → WatchState → WatchState
left_watch at tables (kind.Dials conn) d watch = watch
left_watch at tables (kind.Asks conn tag) d watch =
    watch_cancelled (watch_freed at watch tables conn d.effect) conn d.events
left_watch at tables (kind.Ends conn why) d watch = watch_without_fids at watch tables conn
left_watch at tables (kind.Takes conn) d watch = watch
left_watch at tables kind.Acts d watch = watch

-- first the request is answered that a message answers
abbrev pub closed_watch : ℕ → Tables → Kind → Doing → WatchState → WatchState
closed_watch at tables k d watch = left_watch at tables k d (answered_with at watch d.answers)

-- the sessions without the fids that are freed, and the reads that were answered wait no more
abbrev pub ended_tables : Tables → Kind → Doing → List Response → Tables
ended_tables tables (kind.Dials conn) d responses = ended tables responses
ended_tables tables (kind.Asks conn tag) d responses =
    without_cancelled (ended (ended_with tables conn d.effect) responses) conn d.events
ended_tables tables (kind.Ends conn why) d responses = ended (after_hangup tables conn) responses
ended_tables tables (kind.Takes conn) d responses = ended tables responses
ended_tables tables kind.Acts d responses = ended tables responses

-- the unsent replies without those that an event of this kind takes
abbrev pub left_unsent : List Unsent → Kind → List Unsent
left_unsent unsent (kind.Dials conn) = unsent
left_unsent unsent (kind.Asks conn tag) = unsent
left_unsent unsent (kind.Ends conn why) = unsent
left_unsent unsent (kind.Takes conn) = taken unsent conn
left_unsent unsent kind.Acts = unsent
