-- Laws of messages, and of the format.
use Rattle.std.specs.Prelude.{◌≡◌, ℕ, Option, Some, None}
use Rattle.ninep_types.specs.declared.message.TBody.{TBody}
use Rattle.ninep_types.specs.declared.message.TMsg.{TMsg}
use Rattle.am_journal.specs.declared.event.Event.{Event}
use Rattle.am_journal.specs.declared.event.Event.TheVariants as event
use Rattle.core_fids.specs.declared.effect.Answer.{Answer}
use Rattle.core_answers.specs.Laws.{IsAnswered}
use Rattle.core_intents.specs.Doings.{doing_of}
use Rattle.core_parts.specs.States.{Present, State, present, format_of}
use Rattle.acme_core.specs.Run.{step}

-- a message has an answer, of its type or a refusal
abbrev pub HasAnswer : TBody → Option Answer → Type 0
HasAnswer asked None = ⊥
HasAnswer asked (Some answer) = IsAnswered asked answer

-- In each state each message of each connection is answered: by its own R message, unless a named refusal applies, also
-- one of what it asks of the scene. A Tread alone may be answered later.
abbrev pub EachIsAnswered : Type 0
EachIsAnswered = (s : Present) (conn : ℕ) (msg : TMsg) → HasAnswer msg.body (doing_of s (event.Msg conn msg)).answer

-- no event changes the format, by which the limits of fids and of waiting reads go
abbrev pub KeepsFormat : Type 0
KeepsFormat = (s : State) (e : Event) → format_of (present (step s e)) ≡ format_of (present s)
