-- What a client knows of the tags that it has asked, and what it sends.
use Rattle.std.specs.Prelude.{◌≡◌, ◌≢◌, ◌≤◌, ◌<◌, ◌^◌, ℕ, Bool, true, false, ◌&&◌, List, [], ◌∷◌, ◌++◌, length, Option}
use Rattle.std.specs.Prelude.{Some, None, is_some, is_none, nat_lt, nat_le, ◌==◌, if◌then◌else◌}
use Rattle.std.specs.Prelude.{position, slice_get, option_and_then}
use Rattle.std.specs.List.{list_any}
use Rattle.ninep_types.specs.Kinds.{tversion, tflush}
use Rattle.ninep_types.specs.Limits.{max_msize, no_tag}
use Rattle.ninep_types.specs.declared.message.TBody.{TBody}
use Rattle.ninep_types.specs.declared.message.RBody.{RBody}
use Rattle.ninep_types.specs.Spelling.{kind_t, size_t, BodyFits_t}
use Rattle.ninep_client.specs.declared.asked.Asked.{Asked}
use Rattle.ninep_client.specs.declared.fault.CallFault.{CallFault}
use Rattle.ninep_client.specs.declared.fault.CallFault.TheVariants.{Closed, Tags, Large}

-- What a client knows: the bytes that came and weren't read yet, the tags that are asked, in the order of sending, the
-- most bytes of a message, and whether it is closed.
pub record Talk : Type 0 where
  pub unread : List ℕ
  pub asked : List Asked
  pub msize : ℕ
  pub is_closed : Bool

-- nothing was asked and nothing came
abbrev pub begun : Talk
begun = record { unread = []; asked = []; msize = max_msize; is_closed = false }

-- a client: where its replies come from, where its messages go, and what it knows
pub record State (R W : Type 0) : Type 0 where
  pub source : R
  pub sink : W
  pub talk : Talk

-- ---- tags

-- whether it is this tag
abbrev pub has_tag : ℕ → Asked → Bool
has_tag tag a = a.tag == tag

-- whether a tag is asked
abbrev pub is_asked : ℕ → List Asked → Bool
is_asked tag asked = list_any (has_tag tag) asked

-- no tag from 1 on that is less is free
pub record IsLeastFree (asked : List Asked) (tag : ℕ) : Type 0 where
  pub from_one : 1 ≤ tag
  pub free : is_asked tag asked ≡ false
  pub least : (less : ℕ) → less < tag → 1 ≤ less → is_asked less asked ≡ true

-- whether a message is a Tversion
abbrev pub is_version : TBody → Bool
is_version body = kind_t body == tversion

-- the tag of a version message is NOTAG, that of another the least that is free
abbrev pub HasTag : Bool → List Asked → ℕ → Type 0
HasTag true asked tag = tag ≡ no_tag
HasTag false asked tag = IsLeastFree asked tag

-- the tag with which a message is sent
abbrev pub IsTagFor : TBody → List Asked → ℕ → Type 0
IsTagFor body asked tag = HasTag (is_version body) asked tag

-- ---- what may be sent, and what is refused

-- The message has a spelling, it is no Tflush, and a Tversion is sent while no tag is asked.
pub record MaySend (asked : List Asked) (body : TBody) : Type 0 where
  pub fits : BodyFits_t body
  pub size : size_t body < 2 ^ 32
  pub no_flush : kind_t body ≢ tflush
  pub alone : is_version body ≡ true → asked ≡ []

-- the most tags that are asked at a time
abbrev pub most_tags : ℕ
most_tags = 1024

-- why a message isn't sent, if it isn't
abbrev pub refusal : Talk → TBody → Option CallFault
refusal t body =
    if t.is_closed then Some Closed
    else (if nat_le most_tags (length t.asked) then Some Tags
    else (if nat_lt t.msize (size_t body) then Some Large else None))

-- a tag that was sent, with the type byte of its message, and no reply yet
abbrev pub asking : ℕ → TBody → Asked
asking tag body = record { tag = tag; kind = kind_t body; reply = None }

-- after a message was sent
abbrev pub after_sent : Talk → ℕ → TBody → Talk
after_sent t tag body = record t { asked = t.asked ++ asking tag body ∷ [] }

-- after the client was closed
abbrev pub closed : Talk → Talk
closed t = record t { is_closed = true }

-- ---- replies that are kept

-- a tag that waits for its reply, and one whose reply is kept
abbrev pub waits_for : ℕ → Asked → Bool
waits_for tag a = a.tag == tag && is_none a.reply

-- whether the reply to this tag is kept here
abbrev pub has_reply_of : ℕ → Asked → Bool
has_reply_of tag a = a.tag == tag && is_some a.reply

-- the place of each among those asked
abbrev pub waiting_place : ℕ → List Asked → Option ℕ
waiting_place tag asked = position (waits_for tag) asked

-- the place at which the reply to a tag is kept
abbrev pub reply_place : ℕ → List Asked → Option ℕ
reply_place tag asked = position (has_reply_of tag) asked

-- the reply that is kept for a tag, if one is
abbrev pub reply_in : Option Asked → Option RBody
reply_in None = None
reply_in (Some a) = a.reply

-- the reply that is kept for a tag, if one is
abbrev pub reply_of : ℕ → List Asked → Option RBody
reply_of tag asked = reply_in (option_and_then (slice_get asked) (reply_place tag asked))
