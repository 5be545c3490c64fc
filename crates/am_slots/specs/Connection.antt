-- What a journal says of one connection.
use Rattle.std.specs.Prelude.{◌≡◌, ℕ, ◌==◌, Bool, true, false, List, [], ◌∷◌, filter, if◌then◌else◌}
use Rattle.std.specs.List.{flat_map}
use Rattle.am_journal.specs.declared.ending.Ending.{Ending}
use Rattle.am_journal.specs.declared.event.Event.{Event}
use Rattle.am_journal.specs.declared.event.Event.TheVariants as event
use Rattle.am_counter.specs.Played.{IsPrefix, has_hang}

-- an event of the connection
abbrev pub is_of : ℕ → Event → Bool
is_of conn (event.Dial c) = c == conn
is_of conn (event.Msg c msg) = c == conn
is_of conn (event.Hang c why) = c == conn
is_of conn (event.Took c) = c == conn
is_of conn event.New = false
is_of conn (event.Key w side text) = false
is_of conn (event.Sel w range) = false
is_of conn (event.Exec at) = false
is_of conn (event.Arg at chord) = false
is_of conn (event.Look at) = false
is_of conn (event.File path text) = false
is_of conn (event.Dir path) = false

-- the journal has nothing of the connection
abbrev pub IsSilent : List Event → ℕ → Type 0
IsSilent journal conn = filter (is_of conn) journal ≡ []

-- the cause of a connection's end, where an event is one
abbrev pub ended_by : ℕ → Event → List Ending
ended_by conn (event.Dial c) = []
ended_by conn (event.Msg c msg) = []
ended_by conn (event.Hang c why) = if c == conn then why ∷ [] else []
ended_by conn (event.Took c) = []
ended_by conn event.New = []
ended_by conn (event.Key w side text) = []
ended_by conn (event.Sel w range) = []
ended_by conn (event.Exec at) = []
ended_by conn (event.Arg at chord) = []
ended_by conn (event.Look at) = []
ended_by conn (event.File path text) = []
ended_by conn (event.Dir path) = []

-- the causes of the connection's hang-ups
abbrev pub endings_of : List Event → ℕ → List Ending
endings_of journal conn = flat_map (ended_by conn) journal

-- at a turn behind the connection's hang-up no reply to it was unsent
abbrev pub IsDrained : (List Event → ℕ → List ℕ) → List Event → ℕ → Type 0
IsDrained unsent journal conn = (before : List Event) × IsPrefix before journal × (has_hang before conn ≡ true)
    × (unsent before conn ≡ [])
