-- The answers to what is asked of the editor as it stands.
use Rattle.std.specs.Prelude.{ℕ, Bool, true, false, nat_lt}
use Rattle.am_counter.specs.declared.ask.Ask.{Ask}
use Rattle.am_counter.specs.declared.ask.Ask.TheVariants as ask
use Rattle.event_book.specs.BookState.{is_open_window}
use Rattle.core_parts.specs.declared.connection.Connection.{Connection}
use Rattle.core_parts.specs.declared.connection.Connection.TheVariants.{Undialed, Live, Ended}
use Rattle.core_parts.specs.Connections.{connection_at}
use Rattle.core_parts.specs.Limits.{max_replies}
use Rattle.core_parts.specs.States.{Present, unsent_count}

-- whether a connection has ended
abbrev pub is_ended : Connection → Bool
is_ended Undialed = false
is_ended Live = false
is_ended (Ended why) = true

-- a message may come while fewer than 256 replies are unsent
abbrev pub has_room : ℕ → Bool
has_room count = nat_lt count max_replies

-- the answer as the editor stands
abbrev pub answer_in : Present → Ask → Bool
answer_in s (ask.EventOpen window) = is_open_window s.scene.book window
answer_in s (ask.Room conn) = has_room (unsent_count s conn)
answer_in s (ask.Ended conn) = is_ended (connection_at s.connections conn)
