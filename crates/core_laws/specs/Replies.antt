-- The replies that a journal makes.
use Rattle.std.specs.Prelude.{ℕ, ◌==◌, List, [], ◌∷◌, ◌++◌, if◌then◌else◌}
use Rattle.am_journal.specs.declared.event.Event.{Event}
use Rattle.am_journal.specs.declared.event.Journal.{Journal}
use Rattle.core_outputs.specs.declared.reply.Reply.{Reply}
use Rattle.acme_core.specs.Run.{step}
use Rattle.core_parts.specs.States.{State, start_of}

-- the bytes of those to a connection, one after another
abbrev pub bytes_to : ℕ → List Reply → List ℕ
bytes_to conn [] = []
bytes_to conn (reply ∷ replies) = (if reply.conn == conn then reply.bytes else []) ++ bytes_to conn replies

-- the replies to a connection that the editor makes from a state on, entry by entry
abbrev pub replies_from : State → List Event → ℕ → List ℕ
replies_from s [] conn = []
replies_from s (e ∷ events) conn = bytes_to conn (step s e).replies ++ replies_from (step s e) events conn

-- all replies to a connection
abbrev pub replies : Journal → ℕ → List ℕ
replies journal conn = replies_from (start_of journal.format) journal.events conn
