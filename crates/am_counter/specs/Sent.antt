-- What a journal sends to a connection, over any account of what is unsent.
use Rattle.std.specs.Prelude.{ℕ, ◌==◌, List, [], ◌∷◌, ◌++◌, if◌then◌else◌}
use Rattle.am_journal.specs.declared.event.Event.{Event}
use Rattle.am_journal.specs.declared.event.Event.TheVariants as event

-- what an event sends to a connection
abbrev pub sent_by : (List Event → ℕ → List ℕ) → ℕ → List Event → Event → List ℕ
sent_by unsent conn before (event.Dial c) = []
sent_by unsent conn before (event.Msg c msg) = []
sent_by unsent conn before (event.Hang c why) = []
sent_by unsent conn before (event.Took c) = if c == conn then unsent before c else []
sent_by unsent conn before event.New = []
sent_by unsent conn before (event.Key w side text) = []
sent_by unsent conn before (event.Sel w range) = []
sent_by unsent conn before (event.Exec at) = []
sent_by unsent conn before (event.Arg at chord) = []
sent_by unsent conn before (event.Look at) = []
sent_by unsent conn before (event.File path text) = []
sent_by unsent conn before (event.Dir path) = []

-- the bytes that events take of a connection's replies, each after those before it
unfoldable pub sent_from : (List Event → ℕ → List ℕ) → List Event → List Event → ℕ → List ℕ
sent_from unsent before [] conn = []
sent_from unsent before (e ∷ events) conn =
    sent_by unsent conn before e ++ sent_from unsent (before ++ e ∷ []) events conn

-- all bytes that were sent to the connection: the replies that each taking found unsent
abbrev pub sent : (List Event → ℕ → List ℕ) → List Event → ℕ → List ℕ
sent unsent journal conn = sent_from unsent [] journal conn
