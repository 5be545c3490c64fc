-- What a client makes of the messages that come.
use Rattle.std.specs.Prelude.{◌≡◌, ◌≢◌, ◌+◌, ℕ, Bool, ◌||◌, List, [], ◌∷◌, ◌++◌, Option, Some, None, is_some, Result}
use Rattle.std.specs.Prelude.{Ok, Err, ◌==◌, if◌then◌else◌, slice_get, slice_set, remove, min, length, All}
use Rattle.am_base.specs.Seen.{Seen}
use Rattle.std.specs.List.{concat}
use Rattle.am_base.specs.Outside.{then_told, AreTold, HasRisen}
use Rattle.ninep_types.specs.Kinds.{rerror}
use Rattle.ninep_types.specs.Limits.{max_msize}
use Rattle.ninep_types.specs.declared.fault.WireFault.{WireFault}
use Rattle.ninep_types.specs.declared.fault.WireFault.TheVariants.{Size}
use Rattle.ninep_types.specs.declared.message.RMsg.{RMsg}
use Rattle.ninep_types.specs.declared.message.RBody.{RBody}
use Rattle.ninep_types.specs.declared.message.RBody.TheVariants as r
use Rattle.ninep_types.specs.Reading.{r_of}
use Rattle.ninep_types.specs.Spelling.{kind_r}
use Rattle.ninep_cut.specs.declared.cut.Cut.{Cut}
use Rattle.ninep_cut.specs.declared.cut.Cut.TheVariants.{Whole, More, Broken}
use Rattle.ninep_cut.specs.Cuts.{IsMessage, cut_of, first_of}
use Rattle.ninep_client.specs.declared.asked.Asked.{Asked}
use Rattle.ninep_client.specs.declared.fault.CallFault.{CallFault}
use Rattle.ninep_client.specs.declared.fault.CallFault.TheVariants.{Wire, Unasked, Kind}
use Rattle.ninep_client.specs.declared.fault.CallFault.TheVariants as faults
use Rattle.ninep_types.specs.declared.fault.WireError.{WireError}
use Rattle.ninep_types.specs.declared.fault.WireError.TheVariants as errors
use Rattle.ninep_client.specs.Asking.{waiting_place, reply_place}

-- ---- one message

-- a reply has the type byte after that of its message, or that of an error
abbrev pub answers : ℕ → RBody → Bool
answers kind body = kind_r body == rerror || kind_r body == kind + 1

-- the tags asked with a reply kept at a place
abbrev pub kept_at : List Asked → ℕ → ℕ → RMsg → List Asked
kept_at asked at kind m = slice_set asked at (record { tag = m.tag; kind = kind; reply = Some m.body })

-- the type byte of the message that was sent with a tag
abbrev pub kind_in : Option Asked → Option ℕ
kind_in None = None
kind_in (Some a) = Some a.kind

-- the place and the type byte of a tag that waits for this reply
abbrev pub judged_as : ℕ → RMsg → Option ℕ → Result (ℕ × ℕ) CallFault
judged_as at m None = Err (Unasked m.tag)
judged_as at m (Some kind) = if answers kind m.body then Ok (at, kind) else Err (Kind (kind_r m.body))

-- the place and the type byte of a tag that waits, if the reply answers its message
abbrev pub judged_at : List Asked → RMsg → Option ℕ → Result (ℕ × ℕ) CallFault
judged_at asked m None = Err (Unasked m.tag)
judged_at asked m (Some at) = judged_as at m (kind_in (slice_get asked at))

-- the place and the type byte of the tag that a reply is for
unfoldable pub judged : List Asked → RMsg → Result (ℕ × ℕ) CallFault
judged asked m = judged_at asked m (waiting_place m.tag asked)

-- the tags asked once a reply was kept, or why it isn't kept
abbrev pub heard_as : List Asked → RMsg → Result (ℕ × ℕ) CallFault → Result (List Asked) CallFault
heard_as asked m (Ok place) = Ok (kept_at asked place.0 place.1 m)
heard_as asked m (Err f) = Err f

-- A reply is kept for its tag, if that is asked and has none yet.
abbrev pub heard_reply : List Asked → RMsg → Result (List Asked) CallFault
heard_reply asked m = heard_as asked m (judged asked m)

-- the tags asked once a message was read
abbrev pub heard_read : List Asked → Result RMsg WireFault → Result (List Asked) CallFault
heard_read asked (Err f) = Err (Wire f)
heard_read asked (Ok m) = heard_reply asked m

-- what a message makes of the tags asked, or what is wrong with it
unfoldable pub heard : List Asked → List ℕ → Result (List Asked) CallFault
heard asked message = heard_read asked (r_of message)

-- ---- what stands at the front of the bytes

-- why there is no next state
abbrev pub fault_in : Result (List Asked) CallFault → Option CallFault
fault_in (Ok next) = None
fault_in (Err f) = Some f

-- what is wrong with the message, or its size, that stands at the front
abbrev pub fault_at : Cut → List Asked → List ℕ → Option CallFault
fault_at Whole asked bytes = fault_in (heard asked (first_of bytes))
fault_at More asked bytes = None
fault_at (Broken size) asked bytes = Some (Wire Size)

-- what is wrong with the message, or its size, that stands at the front
abbrev pub front_fault : List Asked → List ℕ → Option CallFault
front_fault asked bytes = fault_at (cut_of bytes) asked bytes

-- ---- messages one after another, until the reply to a tag is kept

-- goes on behind a message that was kept
abbrev pub heard_next : (List Asked → Option (List Asked)) → Result (List Asked) CallFault → Option (List Asked)
heard_next go (Ok next) = go next
heard_next go (Err f) = None

-- these messages are heard, the last of them being the first reply to the tag, if one is
unfoldable pub heard_until : ℕ → List Asked → List (List ℕ) → Option (List Asked)
heard_until tag asked [] = Some asked
heard_until tag asked (m ∷ ms) =
    if is_some (reply_place tag asked) then None else heard_next (λ next. heard_until tag next ms) (heard asked m)

-- Bytes came from a source, behind those that were unread.
pub record Came (left left_now : Option (List ℕ)) (unread now : List ℕ) : Type 0 where
  pub bytes : List ℕ
  pub told : left ≡ then_told bytes left_now
  pub joined : unread ++ bytes ≡ now

-- Bytes came, and these messages were heard from the front of all that were unread; the rest is unread now.
pub record Hears (tag : ℕ) (asked : List Asked) (unread : List ℕ) (left left_now : Option (List ℕ))
    (asked_now : List Asked) (unread_now : List ℕ) : Type 0 where
  pub messages : List (List ℕ)
  pub came : Came left left_now unread (concat messages ++ unread_now)
  pub whole : All IsMessage messages
  pub heard : heard_until tag asked messages ≡ Some asked_now

-- ---- a reply is given

-- the tags asked without the one at a place
abbrev pub without : Option ℕ → List Asked → List Asked
without None asked = asked
without (Some at) asked = remove asked at

-- the tags asked, once the reply to this one was given
abbrev pub answered : ℕ → List Asked → List Asked
answered tag asked = without (reply_place tag asked) asked

-- the most bytes of a message, once this reply was given
abbrev pub msize_after : RBody → ℕ → ℕ
msize_after (r.Version msize version) most = min msize max_msize
msize_after (r.Auth aqid) most = most
msize_after (r.Error ename) most = most
msize_after r.Flush most = most
msize_after (r.Attach qid) most = most
msize_after (r.Walk qids) most = most
msize_after (r.Open qid iounit) most = most
msize_after (r.Create qid iounit) most = most
msize_after (r.Read bytes) most = most
msize_after (r.Write count) most = most
msize_after r.Clunk most = most
msize_after r.Remove most = most
msize_after (r.Stat stat) most = most
msize_after r.Wstat most = most

-- ---- reading bytes

-- so many bytes came
pub record Reads (n : ℕ) (left left_now : Option (List ℕ)) (unread now : List ℕ) : Type 0 where
  pub came : Came left left_now unread now
  pub count : length now ≡ length unread + n
  pub end : n ≡ 0 → AreTold left_now []
  pub none : n ≡ 0 → now ≡ unread

-- Why reading has stopped, by what is unread then: the count of faults has risen inside a message; the source has
-- nothing left, between two messages or inside one; what stands at the front is no reply to a tag that waits. Want
-- of memory shows nothing.
abbrev pub StopsAt : CallFault → List Asked → List ℕ → Seen → Type 0
StopsAt faults.ReadFault asked unread i = (cut_of unread ≡ More) × HasRisen i.before.faults i.now.faults
StopsAt faults.Ended asked unread i = (unread ≡ []) × AreTold i.now.bytes []
StopsAt faults.Torn asked unread i = (unread ≢ []) × (cut_of unread ≡ More) × AreTold i.now.bytes []
StopsAt (Wire f) asked unread i = front_fault asked unread ≡ Some (Wire f)
StopsAt (Unasked n) asked unread i = front_fault asked unread ≡ Some (Unasked n)
StopsAt (Kind kind) asked unread i = front_fault asked unread ≡ Some (Kind kind)
StopsAt faults.NoMemory asked unread i = Unit {0}
StopsAt faults.Closed asked unread i = ⊥
StopsAt faults.Tags asked unread i = ⊥
StopsAt faults.Large asked unread i = ⊥
StopsAt faults.WriteFault asked unread i = ⊥
StopsAt (faults.Remote text) asked unread i = ⊥

-- why no bytes came from a source
abbrev pub ReadFails : CallFault → ℕ → ℕ → Type 0
ReadFails faults.ReadFault before now = HasRisen before now
ReadFails faults.NoMemory before now = Unit {0}
ReadFails faults.Ended before now = ⊥
ReadFails faults.Torn before now = ⊥
ReadFails (Wire f) before now = ⊥
ReadFails (Unasked n) before now = ⊥
ReadFails (Kind kind) before now = ⊥
ReadFails faults.Closed before now = ⊥
ReadFails faults.Tags before now = ⊥
ReadFails faults.Large before now = ⊥
ReadFails faults.WriteFault before now = ⊥
ReadFails (faults.Remote text) before now = ⊥

-- A message stood at the front of the bytes, and its reply was kept.
pub record HearsOne (asked : List Asked) (unread : List ℕ) (left left_now : Option (List ℕ)) (asked_now : List Asked)
    (unread_now : List ℕ) : Type 0 where
  pub message : List ℕ
  pub came : Came left left_now unread (message ++ unread_now)
  pub whole : IsMessage message
  pub heard : heard asked message ≡ Ok asked_now

-- the fault that a message shows which couldn't be read
abbrev pub fault_of : WireError → CallFault
fault_of (errors.Fault f) = Wire f
fault_of errors.NoMemory = faults.NoMemory

-- how many tags wait for their replies
abbrev pub waiting_one : Option RBody → ℕ
waiting_one None = 1
waiting_one (Some body) = 0

-- how many of the tags asked wait for their replies
abbrev pub waiting : List Asked → ℕ
waiting [] = 0
waiting (a ∷ asked) = waiting_one a.reply + waiting asked

-- the fault of an error that was answered
pub record IsRemote (body : RBody) (e : CallFault) : Type 0 where
  pub text : List ℕ
  pub error : body ≡ r.Error text
  pub fault : e ≡ faults.Remote text

-- Why a message wasn't heard: it shows this fault; want of memory shows nothing.
abbrev pub HeardFails : CallFault → Result (List Asked) CallFault → Type 0
HeardFails (Wire f) hearing = hearing ≡ Err (Wire f)
HeardFails (Unasked n) hearing = hearing ≡ Err (Unasked n)
HeardFails (Kind kind) hearing = hearing ≡ Err (Kind kind)
HeardFails faults.NoMemory hearing = Unit {0}
HeardFails faults.ReadFault hearing = ⊥
HeardFails faults.Ended hearing = ⊥
HeardFails faults.Torn hearing = ⊥
HeardFails faults.Closed hearing = ⊥
HeardFails faults.Tags hearing = ⊥
HeardFails faults.Large hearing = ⊥
HeardFails faults.WriteFault hearing = ⊥
HeardFails (faults.Remote text) hearing = ⊥

-- why there is no message at the end of a source
abbrev pub end_of : List ℕ → CallFault
end_of [] = faults.Ended
end_of (b ∷ unread) = faults.Torn

-- the faults of a reply that isn't kept
abbrev pub IsOfReply : CallFault → Type 0
IsOfReply (Unasked n) = Unit {0}
IsOfReply (Kind kind) = Unit {0}
IsOfReply (Wire f) = ⊥
IsOfReply faults.NoMemory = ⊥
IsOfReply faults.ReadFault = ⊥
IsOfReply faults.Ended = ⊥
IsOfReply faults.Torn = ⊥
IsOfReply faults.Closed = ⊥
IsOfReply faults.Tags = ⊥
IsOfReply faults.Large = ⊥
IsOfReply faults.WriteFault = ⊥
IsOfReply (faults.Remote text) = ⊥
