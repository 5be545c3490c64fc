-- What each answer of a client's calls says.
use Rattle.std.specs.Prelude.{◌≡◌, ◌⊎◌, ℕ, Bool, true, false, List, Some, None}
use Rattle.am_base.specs.Seen.{Seen}
use Rattle.am_base.specs.Written.{IsWhole, IsCut}
use Rattle.ninep_types.specs.declared.message.TMsg.{TMsg}
use Rattle.ninep_types.specs.declared.message.TBody.{TBody}
use Rattle.ninep_types.specs.declared.message.RBody.{RBody}
use Rattle.ninep_types.specs.declared.message.RBody.TheVariants as r
use Rattle.ninep_types.specs.Spelling.{spelling_t, kind_r}
use Rattle.ninep_client.specs.declared.asked.Asked.{Asked}
use Rattle.ninep_client.specs.declared.fault.CallFault.{CallFault}
use Rattle.ninep_client.specs.declared.fault.CallFault.TheVariants as fault
use Rattle.ninep_client.specs.Asking.{Talk, IsTagFor, refusal, after_sent, closed, reply_of, reply_place}
use Rattle.ninep_client.specs.Hearing.{Hears, StopsAt, answered, msize_after}

-- ---- send

-- the bytes of a message with this tag
abbrev pub message_of : ℕ → TBody → List ℕ
message_of tag body = let m : TMsg = record { tag = tag; body = body } in spelling_t m

-- A message was sent: it is whole in the sink, and its tag is asked.
pub record Sends (t : Talk) (body : TBody) (tag : ℕ) (after : Talk) (o : Seen) : Type 0 where
  pub allowed : refusal t body ≡ None
  pub tagged : IsTagFor body t.asked tag
  pub state : after ≡ after_sent t tag body
  pub put : IsWhole o (message_of tag body)

-- nothing was sent, and nothing has changed
pub record IsIdle (t after : Talk) (o : Seen) : Type 0 where
  pub same : after ≡ t
  pub silent : o.now.bytes ≡ o.before.bytes

-- The sink has failed: a front of the message stands in it, and the client is closed.
pub record Cuts (t : Talk) (body : TBody) (after : Talk) (o : Seen) : Type 0 where
  pub tag : ℕ
  pub for : IsTagFor body t.asked tag
  pub state : after ≡ closed t
  pub cut : IsCut o (message_of tag body)

-- why a message wasn't sent
abbrev pub SendFails : CallFault → Talk → TBody → Talk → Seen → Type 0
SendFails fault.Closed t body after o = (refusal t body ≡ Some fault.Closed) × IsIdle t after o
SendFails fault.Tags t body after o = (refusal t body ≡ Some fault.Tags) × IsIdle t after o
SendFails fault.Large t body after o = (refusal t body ≡ Some fault.Large) × IsIdle t after o
SendFails fault.WriteFault t body after o = (refusal t body ≡ None) × Cuts t body after o
SendFails fault.NoMemory t body after o = (refusal t body ≡ None) × IsIdle t after o
SendFails fault.ReadFault t body after o = ⊥
SendFails fault.Ended t body after o = ⊥
SendFails fault.Torn t body after o = ⊥
SendFails (fault.Remote text) t body after o = ⊥
SendFails (fault.Wire f) t body after o = ⊥
SendFails (fault.Unasked n) t body after o = ⊥
SendFails (fault.Kind kind) t body after o = ⊥

-- ---- wait

-- messages were heard until the reply to a tag was kept, or as far as they came
abbrev pub HearsFor : ℕ → Talk → Seen → List Asked → List ℕ → Type 0
HearsFor tag t i asked unread = Hears tag t.asked t.unread i.before.bytes i.now.bytes asked unread

-- The first reply to the tag was given, and the tag is free again.
pub record Gives (tag : ℕ) (t : Talk) (i : Seen) (body : RBody) (after : Talk) : Type 0 where
  pub asked : List Asked
  pub hears : HearsFor tag t i asked after.unread
  pub reply : reply_of tag asked ≡ Some body
  pub state : after ≡ record {
    unread = after.unread;
    asked = answered tag asked;
    msize = msize_after body t.msize;
    is_closed = t.is_closed;
  }

-- nothing was read, and nothing has changed
pub record IsClosed (tag : ℕ) (t : Talk) (i : Seen) (after : Talk) : Type 0 where
  pub shut : t.is_closed ≡ true
  pub none : reply_place tag t.asked ≡ None
  pub same : after ≡ t
  pub unread : i.now.bytes ≡ i.before.bytes

-- whether a fault closes the client, where it comes while it waits
abbrev pub closes : CallFault → Bool
closes fault.NoMemory = false
closes fault.Closed = true
closes fault.Tags = true
closes fault.Large = true
closes fault.WriteFault = true
closes fault.ReadFault = true
closes fault.Ended = true
closes fault.Torn = true
closes (fault.Remote text) = true
closes (fault.Wire f) = true
closes (fault.Unasked n) = true
closes (fault.Kind kind) = true

-- Messages were heard, none of which is a reply to the tag, and then reading has stopped for a cause, which closes the
-- client, unless it is want of memory.
pub record Stops (e : CallFault) (tag : ℕ) (t : Talk) (i : Seen) (after : Talk) : Type 0 where
  pub live : t.is_closed ≡ false
  pub hears : HearsFor tag t i after.asked after.unread
  pub none : reply_place tag after.asked ≡ None
  pub cause : StopsAt e after.asked after.unread i
  pub state : after ≡ record { unread = after.unread; asked = after.asked; msize = t.msize; is_closed = closes e }

-- why there is no reply to give
abbrev pub WaitFails : CallFault → ℕ → Talk → Seen → Talk → Type 0
WaitFails (fault.Remote text) tag t i after = Gives tag t i (r.Error text) after
WaitFails fault.Closed tag t i after = IsClosed tag t i after
WaitFails fault.ReadFault tag t i after = Stops fault.ReadFault tag t i after
WaitFails fault.Ended tag t i after = Stops fault.Ended tag t i after
WaitFails fault.Torn tag t i after = Stops fault.Torn tag t i after
WaitFails (fault.Wire f) tag t i after = Stops (fault.Wire f) tag t i after
WaitFails (fault.Unasked n) tag t i after = Stops (fault.Unasked n) tag t i after
WaitFails (fault.Kind kind) tag t i after = Stops (fault.Kind kind) tag t i after
WaitFails fault.NoMemory tag t i after = Stops fault.NoMemory tag t i after
WaitFails fault.Large tag t i after = ⊥
WaitFails fault.Tags tag t i after = ⊥
WaitFails fault.WriteFault tag t i after = ⊥

-- ---- call

-- The message was sent, and the reply to it was given.
pub record Calls (t : Talk) (body : TBody) (o i : Seen) (reply : RBody) (after : Talk) : Type 0 where
  pub tag : ℕ
  pub sends : Sends t body tag (after_sent t tag body) o
  pub gives : Gives tag (after_sent t tag body) i reply after

-- a call that found no memory closes the client, since nobody knows its tag
abbrev pub shut : CallFault → Talk → Talk
shut fault.NoMemory t = closed t
shut fault.Closed t = t
shut fault.Tags t = t
shut fault.Large t = t
shut fault.WriteFault t = t
shut fault.ReadFault t = t
shut fault.Ended t = t
shut fault.Torn t = t
shut (fault.Remote text) t = t
shut (fault.Wire f) t = t
shut (fault.Unasked n) t = t
shut (fault.Kind kind) t = t

-- The message wasn't sent, and nothing was read.
pub record IsUnsent (e : CallFault) (t : Talk) (body : TBody) (o i : Seen) (after : Talk) : Type 0 where
  pub mid : Talk
  pub fails : SendFails e t body mid o
  pub state : after ≡ shut e mid
  pub unread : i.now.bytes ≡ i.before.bytes

-- The message was sent, and there is no reply to give.
pub record IsUnanswered (e : CallFault) (t : Talk) (body : TBody) (o i : Seen) (after : Talk) : Type 0 where
  pub tag : ℕ
  pub mid : Talk
  pub sends : Sends t body tag (after_sent t tag body) o
  pub fails : WaitFails e tag (after_sent t tag body) i mid
  pub state : after ≡ shut e mid

-- why a call gave no reply
abbrev pub CallFails : CallFault → Talk → TBody → Seen → Seen → Talk → Type 0
CallFails e t body o i after = IsUnsent e t body o i after ⊎ IsUnanswered e t body o i after
