-- What an event of each kind finds, where it is lawful and enabled.
use Rattle.std.proofs.Common.{◌≡◌, ◌<◌, None, Some, Option, refl}
use Rattle.am_journal.specs.declared.event.Event.{Event}
use Rattle.am_journal.specs.declared.event.Event.TheVariants as event
use Rattle.am_journal.specs.declared.event.Why.{Why}
use Rattle.am_journal.specs.Lawful.{IsLawful}
use Rattle.core_parts.specs.declared.connection.Connection.{Connection}
use Rattle.core_parts.specs.declared.kind.Kind.{Kind}
use Rattle.core_parts.specs.declared.kind.Kind.TheVariants as kind
use Rattle.core_parts.specs.Connections.{connection_at}
use Rattle.core_intents.specs.Doings.{enabled_at}
use Rattle.core_intents.specs.Enabled.{dial_refusal, live_refusal, first_why}
use Rattle.core_parts.specs.Kinds.{kind_of}
use Rattle.core_parts.specs.States.{Present}
use Rattle.std.specs.Prelude.{List}

-- the connection that it dials or ends is one of 64
abbrev pub IsNumbered : Kind → Type 0
IsNumbered (kind.Dials conn) = conn < 64
IsNumbered (kind.Asks conn tag) = Unit {0}
IsNumbered (kind.Ends conn why) = conn < 64
IsNumbered (kind.Takes conn) = Unit {0}
IsNumbered kind.Acts = Unit {0}

pub numbered : (e : Event) → IsLawful e → IsNumbered (kind_of e)
numbered (event.Dial conn) h = h
numbered (event.Msg conn msg) h = tt
numbered (event.Hang conn why) h = h
numbered (event.Took conn) h = tt
numbered event.New h = tt
numbered (event.Key w side text) h = tt
numbered (event.Sel w range) h = tt
numbered (event.Exec at) h = tt
numbered (event.Arg at chord) h = tt
numbered (event.Look at) h = tt
numbered (event.File path text) h = tt
numbered (event.Dir path) h = tt

-- it was never dialled, or it lives
abbrev pub IsFound : List Connection → Kind → Type 0
IsFound cs (kind.Dials conn) = dial_refusal (connection_at cs conn) ≡ None
IsFound cs (kind.Asks conn tag) = live_refusal (connection_at cs conn) ≡ None
IsFound cs (kind.Ends conn why) = live_refusal (connection_at cs conn) ≡ None
IsFound cs (kind.Takes conn) = Unit {0}
IsFound cs kind.Acts = Unit {0}

pub first_is : (a b : Option Why) → first_why a b ≡ None → a ≡ None
first_is None b e = refl
first_is (Some w) b e = absurd cc

pub first_then : (a b : Option Why) → first_why a b ≡ None → b ≡ None
first_then None b e = e
first_then (Some w) b e = absurd cc

pub found : (s : Present) (e : Event) → enabled_at s e ≡ None → IsFound s.connections (kind_of e)
found s (event.Dial conn) e = e
found s (event.Msg conn msg) e = first_is (live_refusal (connection_at s.connections conn)) _ e
found s (event.Hang conn why) e = e
found s (event.Took conn) e = tt
found s event.New e = tt
found s (event.Key w side text) e = tt
found s (event.Sel w range) e = tt
found s (event.Exec at) e = tt
found s (event.Arg at chord) e = tt
found s (event.Look at) e = tt
found s (event.File path text) e = tt
found s (event.Dir path) e = tt
