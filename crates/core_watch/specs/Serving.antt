-- Waiting reads that can be answered now are answered, the oldest first over both files.
use Rattle.std.specs.Prelude.{ℕ, zero, suc, List, [], ◌∷◌, length, Option, Some, None, option_map}
use Rattle.ninep_types.specs.declared.message.RBody.TheVariants as r
use Rattle.wait_queue.specs.declared.types.Piece.{Piece}
use Rattle.acme_watch.specs.Watching.{WatchState, piece_for, next_of, after_serve}
use Rattle.acme_watch.specs.declared.types.WatchRead.{WatchRead}
use Rattle.core_fids.specs.declared.effect.WatchOpening.{WatchOpening}
use Rattle.core_events.specs.declared.response.Response.{Response}
use Rattle.core_events.specs.Responses.{watch_feed}

-- the opening that is read
abbrev pub opening_of : WatchRead → WatchOpening
opening_of read = record { file = read.file; opening = read.asker.opening }

-- the read that is answered next, and what it gets
abbrev pub next_served : WatchState → Option (WatchRead × Piece)
next_served s = option_map (λ read. (read, piece_for s read)) (next_of s)

-- the answer to a read that waited
abbrev pub response_to : WatchRead × Piece → Response
response_to served = record {
  conn = served.0.asker.conn;
  message = record
      { tag = served.0.asker.tag; body = r.Read served.1.bytes };
  feed = Some (watch_feed (opening_of served.0));
}

-- the answer to the next one, and what comes behind it
abbrev pub then_served : Option (WatchRead × Piece) → List Response → List Response
then_served None rest = []
then_served (Some served) rest = response_to served ∷ rest

-- at most so many reads are answered at this entry
unfoldable pub served_most : ℕ → ℕ → WatchState → List Response
served_most zero at s = []
served_most (suc n) at s = then_served (next_served s) (served_most n at (after_serve s at))

-- so many times the oldest read that can be answered was
unfoldable pub after_serving_most : ℕ → ℕ → WatchState → WatchState
after_serving_most zero at s = s
after_serving_most (suc n) at s = after_serving_most n at (after_serve s at)

-- until none can be: each answer leaves a read less
abbrev pub watch_served : ℕ → WatchState → List Response
watch_served at s = served_most (length s.reads) at s

-- each read that can be answered was
abbrev pub watch_after_serving : ℕ → WatchState → WatchState
watch_after_serving at s = after_serving_most (length s.reads) at s
