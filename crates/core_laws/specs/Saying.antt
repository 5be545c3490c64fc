-- What entries say to connections, each time to the message of a tag.
use Rattle.std.specs.Prelude.{ℕ, ◌==◌, ◌&&◌, Bool, true, false, List, [], ◌∷◌, ◌++◌}
use Rattle.ninep_types.specs.declared.message.RBody.{RBody}
use Rattle.ninep_types.specs.declared.message.RBody.TheVariants as r
use Rattle.ninep_types.specs.declared.message.TBody.TheVariants as t
use Rattle.am_journal.specs.declared.event.Event.{Event}
use Rattle.am_journal.specs.declared.event.Event.TheVariants as event
use Rattle.core_events.specs.declared.response.Response.{Response}
use Rattle.core_parts.specs.declared.kind.Kind.{Kind}
use Rattle.core_parts.specs.declared.kind.Kind.TheVariants as kind
use Rattle.core_fids.specs.declared.refusal.Refusal.TheVariants as refusal
use Rattle.core_fids.specs.Refusals.{refusal_text}
use Rattle.core_intents.specs.Doings.{doing_of}
use Rattle.core_parts.specs.Kinds.{kind_of}
use Rattle.acme_core.specs.Run.{present_after}
use Rattle.core_steps.specs.Stages.{response, said}
use Rattle.am_journal.specs.declared.event.Journal.{Journal}
use Rattle.am_journal.specs.Journal.{longer}

-- what an entry says, after the entries before it
abbrev pub said_after : Journal → Event → List Response
said_after before e = said (present_after before) (kind_of e) (doing_of (present_after before) e)

-- what entries say, each after those before it
unfoldable pub said_from : Journal → List Event → List Response
said_from before [] = []
said_from before (e ∷ events) = said_after before e ++ said_from (longer before e) events

-- whether it is said to a message of this tag on this connection
abbrev pub is_told : ℕ → ℕ → Response → Bool
is_told conn tag x = (x.conn == conn) && (x.message.tag == tag)

-- whether it is a message of this tag on this connection
abbrev pub asks : ℕ → ℕ → Kind → Bool
asks conn tag (kind.Dials c) = false
asks conn tag (kind.Asks c t) = (c == conn) && (t == tag)
asks conn tag (kind.Ends c why) = false
asks conn tag (kind.Takes c) = false
asks conn tag kind.Acts = false

-- whether an event is a message with this tag on this connection
abbrev pub is_message : ℕ → ℕ → Event → Bool
is_message conn tag e = asks conn tag (kind_of e)

-- a Tflush with this tag, for an older one, and its answer
abbrev pub flush_of : ℕ → ℕ → ℕ → Event
flush_of conn tag oldtag = event.Msg conn (record { tag = tag; body = t.Flush oldtag })

-- the answer of a Tflush
abbrev pub flushed : ℕ → ℕ → Response
flushed conn tag = response conn tag r.Flush

-- how a Tflush is answered, by whether its connection has a session
abbrev pub flush_body : Bool → RBody
flush_body true = r.Flush
flush_body false = r.Error (refusal_text refusal.VersionFirst)
