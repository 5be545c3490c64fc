-- What an event is to connections.
use Rattle.std.specs.Prelude.{ℕ, Bool, true, false}
use Rattle.am_journal.specs.declared.event.Event.{Event}
use Rattle.am_journal.specs.declared.event.Event.TheVariants as event
use Rattle.core_parts.specs.declared.kind.Kind.{Kind}
use Rattle.core_parts.specs.declared.kind.Kind.TheVariants as kind

-- decided once: the stages of a step go by it
abbrev pub kind_of : Event → Kind
kind_of (event.Dial conn) = kind.Dials conn
kind_of (event.Msg conn msg) = kind.Asks conn msg.tag
kind_of (event.Hang conn why) = kind.Ends conn why
kind_of (event.Took conn) = kind.Takes conn
kind_of event.New = kind.Acts
kind_of (event.Key w side text) = kind.Acts
kind_of (event.Sel w range) = kind.Acts
kind_of (event.Exec at) = kind.Acts
kind_of (event.Arg at chord) = kind.Acts
kind_of (event.Look at) = kind.Acts
kind_of (event.File path text) = kind.Acts
kind_of (event.Dir path) = kind.Acts

-- its connection, 0 where it has none
abbrev pub conn_of : Kind → ℕ
conn_of (kind.Dials conn) = conn
conn_of (kind.Asks conn tag) = conn
conn_of (kind.Ends conn why) = conn
conn_of (kind.Takes conn) = conn
conn_of kind.Acts = 0

-- whether it is a hang-up
abbrev pub is_hang : Event → Bool
is_hang (event.Dial conn) = false
is_hang (event.Msg conn msg) = false
is_hang (event.Hang conn why) = true
is_hang (event.Took conn) = false
is_hang event.New = false
is_hang (event.Key w side text) = false
is_hang (event.Sel w range) = false
is_hang (event.Exec at) = false
is_hang (event.Arg at chord) = false
is_hang (event.Look at) = false
is_hang (event.File path text) = false
is_hang (event.Dir path) = false
