-- Waiting reads that can be answered now are answered, the oldest first.
use Rattle.std.specs.Prelude.{ℕ, zero, suc, List, [], ◌∷◌, length, Option, Some, None}
use Rattle.ninep_types.specs.declared.message.RBody.TheVariants as r
use Rattle.wait_queue.specs.declared.types.Asker.{Asker}
use Rattle.wait_queue.specs.declared.types.Piece.{Piece}
use Rattle.event_book.specs.BookState.{BookState, served_of, after_serve}
use Rattle.core_events.specs.declared.response.Response.{Response}
use Rattle.core_events.specs.Responses.{event_feed}

-- the answer to a read that waited
abbrev pub response_to : Asker × Piece → Response
response_to served = record {
  conn = served.0.conn;
  message = record
      { tag = served.0.tag; body = r.Read served.1.bytes };
  feed = Some (event_feed served.0.opening);
}

-- the answer to the next one, and what comes behind it
abbrev pub then_served : Option (Asker × Piece) → List Response → List Response
then_served None rest = []
then_served (Some served) rest = response_to served ∷ rest

-- at most so many reads are answered at this entry
unfoldable pub served_most : ℕ → ℕ → BookState → List Response
served_most zero at book = []
served_most (suc n) at book = then_served (served_of book) (served_most n at (after_serve book at))

-- so many times the oldest read that can be answered was
unfoldable pub book_served_most : ℕ → ℕ → BookState → BookState
book_served_most zero at book = book
book_served_most (suc n) at book = book_served_most n at (after_serve book at)

-- until none can be: each answer leaves a read less
abbrev pub served_all : ℕ → BookState → List Response
served_all at book = served_most (length book.reads) at book

-- each read that can be answered was
abbrev pub book_served_all : ℕ → BookState → BookState
book_served_all at book = book_served_most (length book.reads) at book
