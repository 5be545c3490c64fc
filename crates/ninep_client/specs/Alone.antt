-- A call that is made while no tag is asked: the next message is its reply, or there is a fault.
use Rattle.std.specs.Prelude.{◌≡◌, ◌≢◌, ◌⊎◌, ◌+◌, ℕ, true, false, List, [], ◌∷◌, ◌++◌, Option, Some, None, Result, Ok}
use Rattle.std.specs.Prelude.{Err, ◌==◌, if◌then◌else◌}
use Rattle.am_base.specs.Outside.{AreTold, HasRisen}
use Rattle.am_base.specs.Seen.{Seen}
use Rattle.am_base.specs.Written.{IsWhole, IsCut}
use Rattle.ninep_types.specs.Limits.{no_tag}
use Rattle.ninep_types.specs.declared.fault.WireFault.{WireFault}
use Rattle.ninep_types.specs.declared.fault.WireFault.TheVariants.{Size}
use Rattle.ninep_types.specs.declared.message.TBody.{TBody}
use Rattle.ninep_types.specs.declared.message.RMsg.{RMsg}
use Rattle.ninep_types.specs.declared.message.RBody.{RBody}
use Rattle.ninep_types.specs.declared.message.RBody.TheVariants as r
use Rattle.ninep_types.specs.Reading.{r_of}
use Rattle.ninep_types.specs.Spelling.{kind_t, kind_r}
use Rattle.ninep_cut.specs.declared.cut.Cut.{Cut}
use Rattle.ninep_cut.specs.declared.cut.Cut.TheVariants.{Whole, More, Broken}
use Rattle.ninep_cut.specs.Cuts.{IsMessage, cut_of, first_of}
use Rattle.ninep_client.specs.declared.fault.CallFault.{CallFault}
use Rattle.ninep_client.specs.declared.fault.CallFault.TheVariants as fault
use Rattle.ninep_client.specs.Asking.{Talk, is_version, refusal}
use Rattle.ninep_client.specs.Hearing.{Came, answers, msize_after}
use Rattle.ninep_client.specs.Calls.{IsIdle, message_of}

-- the tag of a message
abbrev pub tag_alone : TBody → ℕ
tag_alone body = if is_version body then no_tag else 1

-- the bytes of a message
abbrev pub spelled : TBody → List ℕ
spelled body = message_of (tag_alone body) body

-- a reply, or the text of an error
abbrev pub outcome : RBody → Result RBody CallFault
outcome (r.Error text) = Err (fault.Remote text)
outcome (r.Version msize version) = Ok (r.Version msize version)
outcome (r.Auth aqid) = Ok (r.Auth aqid)
outcome r.Flush = Ok r.Flush
outcome (r.Attach qid) = Ok (r.Attach qid)
outcome (r.Walk qids) = Ok (r.Walk qids)
outcome (r.Open qid iounit) = Ok (r.Open qid iounit)
outcome (r.Create qid iounit) = Ok (r.Create qid iounit)
outcome (r.Read bytes) = Ok (r.Read bytes)
outcome (r.Write count) = Ok (r.Write count)
outcome r.Clunk = Ok r.Clunk
outcome r.Remove = Ok r.Remove
outcome (r.Stat stat) = Ok (r.Stat stat)
outcome r.Wstat = Ok r.Wstat

-- what a message is to one with this tag and type byte
abbrev pub reply_for : ℕ → ℕ → RMsg → Result RBody CallFault
reply_for tag kind m =
    if tag == m.tag then (if answers kind m.body then outcome m.body else Err (fault.Kind (kind_r m.body)))
    else Err (fault.Unasked m.tag)

-- the same of a message that was read, or what is wrong with it
abbrev pub reply_read : ℕ → ℕ → Result RMsg WireFault → Result RBody CallFault
reply_read tag kind (Err f) = Err (fault.Wire f)
reply_read tag kind (Ok m) = reply_for tag kind m

-- the reply that these bytes are, the text of an error, or what is wrong with them
unfoldable pub reply_to : TBody → List ℕ → Result RBody CallFault
reply_to body message = reply_read (tag_alone body) (kind_t body) (r_of message)

-- the most bytes of a message behind a reply or an error
abbrev pub msize_behind : Result RBody CallFault → ℕ → ℕ
msize_behind (Ok reply) most = msize_after reply most
msize_behind (Err e) most = most

-- The message was sent, and the next message is its reply, or the text of an error.
pub record Replies (t : Talk) (body : TBody) (o i : Seen) (got : Result RBody CallFault) (after : Talk) : Type 0 where
  pub message : List ℕ
  pub allowed : refusal t body ≡ None
  pub put : IsWhole o (spelled body)
  pub came : Came i.before.bytes i.now.bytes t.unread (message ++ after.unread)
  pub whole : IsMessage message
  pub reply : reply_to body message ≡ got
  pub state : after ≡ record {
    unread = after.unread;
    asked = [];
    msize = msize_behind got t.msize;
    is_closed = t.is_closed;
  }

-- nothing was sent and nothing was read
pub record IsRefused (e : CallFault) (t : Talk) (body : TBody) (o i : Seen) (after : Talk) : Type 0 where
  pub refused : refusal t body ≡ Some e
  pub idle : IsIdle t after o
  pub unread : i.now.bytes ≡ i.before.bytes

-- a front of the message was sent, and the sink has failed
pub record IsTorn (t : Talk) (body : TBody) (o i : Seen) : Type 0 where
  pub allowed : refusal t body ≡ None
  pub cut : IsCut o (spelled body)
  pub unread : i.now.bytes ≡ i.before.bytes

-- what is wrong with the message, or its size, that stands at the front
abbrev pub reply_fault : Result RBody CallFault → Option CallFault
reply_fault (Ok reply) = None
reply_fault (Err e) = Some e

-- what is wrong with the message that stands at the front, by its cut
abbrev pub front_at : Cut → TBody → List ℕ → Option CallFault
front_at Whole body bytes = reply_fault (reply_to body (first_of bytes))
front_at More body bytes = None
front_at (Broken size) body bytes = Some (fault.Wire Size)

-- what is wrong with the message that stands at the front
abbrev pub front_reply : TBody → List ℕ → Option CallFault
front_reply body bytes = front_at (cut_of bytes) body bytes

-- Why there is no reply, by what is unread then.
abbrev pub AloneStops : CallFault → TBody → List ℕ → Seen → Type 0
AloneStops fault.ReadFault body unread i = (cut_of unread ≡ More) × HasRisen i.before.faults i.now.faults
AloneStops fault.Ended body unread i = (unread ≡ []) × AreTold i.now.bytes []
AloneStops fault.Torn body unread i = (unread ≢ []) × (cut_of unread ≡ More) × AreTold i.now.bytes []
AloneStops (fault.Wire f) body unread i = front_reply body unread ≡ Some (fault.Wire f)
AloneStops (fault.Unasked n) body unread i = front_reply body unread ≡ Some (fault.Unasked n)
AloneStops (fault.Kind kind) body unread i = front_reply body unread ≡ Some (fault.Kind kind)
AloneStops fault.NoMemory body unread i = Unit {0}
AloneStops fault.Closed body unread i = ⊥
AloneStops fault.Tags body unread i = ⊥
AloneStops fault.Large body unread i = ⊥
AloneStops fault.WriteFault body unread i = ⊥
AloneStops (fault.Remote text) body unread i = ⊥

-- The message was sent, and there is no reply for a cause.
pub record HasStopped (e : CallFault) (t : Talk) (body : TBody) (o i : Seen) (after : Talk) : Type 0 where
  pub allowed : refusal t body ≡ None
  pub put : IsWhole o (spelled body)
  pub came : Came i.before.bytes i.now.bytes t.unread after.unread
  pub cause : AloneStops e body after.unread i

-- The message was sent, or not, and there was no memory for the rest.
pub record IsStarved (t : Talk) (body : TBody) (o i : Seen) (after : Talk) : Type 0 where
  pub allowed : refusal t body ≡ None
  pub put : IsWhole o (spelled body) ⊎ (o.now.bytes ≡ o.before.bytes)
  pub came : Came i.before.bytes i.now.bytes t.unread after.unread

-- why there is no reply
abbrev pub AloneFails : CallFault → Talk → TBody → Seen → Seen → Talk → Type 0
AloneFails (fault.Remote text) t body o i after = Replies t body o i (Err (fault.Remote text)) after
AloneFails fault.Closed t body o i after = IsRefused fault.Closed t body o i after
AloneFails fault.Tags t body o i after = IsRefused fault.Tags t body o i after
AloneFails fault.Large t body o i after = IsRefused fault.Large t body o i after
AloneFails fault.WriteFault t body o i after = IsTorn t body o i
AloneFails fault.ReadFault t body o i after = HasStopped fault.ReadFault t body o i after
AloneFails fault.Ended t body o i after = HasStopped fault.Ended t body o i after
AloneFails fault.Torn t body o i after = HasStopped fault.Torn t body o i after
AloneFails (fault.Wire f) t body o i after = HasStopped (fault.Wire f) t body o i after
AloneFails (fault.Unasked n) t body o i after = HasStopped (fault.Unasked n) t body o i after
AloneFails (fault.Kind kind) t body o i after = HasStopped (fault.Kind kind) t body o i after
AloneFails fault.NoMemory t body o i after = IsStarved t body o i after
