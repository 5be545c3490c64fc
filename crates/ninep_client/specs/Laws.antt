-- What a client has done after any calls: the messages that it has heard, and the replies that it has given.
use Rattle.std.specs.Prelude.{◌≡◌, ℕ, Bool, true, false, List, [], ◌∷◌, ◌++◌, filter, Option, Some, None, Result, Ok}
use Rattle.std.specs.Prelude.{Err, ◌==◌, if◌then◌else◌}
use Rattle.ninep_types.specs.declared.fault.WireFault.{WireFault}
use Rattle.ninep_types.specs.declared.message.TBody.{TBody}
use Rattle.ninep_types.specs.declared.message.RMsg.{RMsg}
use Rattle.ninep_types.specs.declared.message.RBody.{RBody}
use Rattle.ninep_types.specs.Reading.{r_of}
use Rattle.ninep_client.specs.declared.asked.Asked.{Asked}
use Rattle.ninep_client.specs.declared.fault.CallFault.{CallFault}
use Rattle.ninep_client.specs.Asking.{is_asked, asking, reply_of}
use Rattle.ninep_client.specs.Hearing.{heard, answered}

-- a message is sent with a tag, the next message is heard, or the reply to a tag is given
pub data Deed : Type 0 where
  Sends : ℕ → TBody → Deed
  Hears : List ℕ → Deed
  Gives : ℕ → Deed

-- the tags that are asked, the messages that were heard, and the replies that were given, each in order
pub record Book : Type 0 where
  pub asked : List Asked
  pub heard : List RMsg
  pub given : List RMsg

-- nothing was asked
abbrev pub clean : Book
clean = record { asked = []; heard = []; given = [] }

-- a message was heard, and its reply kept
abbrev pub after_hearing : Book → Result (List Asked) CallFault → Result RMsg WireFault → Option Book
after_hearing b (Err f) read = None
after_hearing b (Ok next) (Err f) = None
after_hearing b (Ok next) (Ok m) = Some (record b { asked = next; heard = b.heard ++ m ∷ [] })

-- a reply was given
abbrev pub after_giving : Book → ℕ → Option RBody → Option Book
after_giving b tag None = None
after_giving b tag (Some body) =
    Some (record b { asked = answered tag b.asked; given = b.given ++ record { tag = tag; body = body } ∷ [] })

-- what a deed makes of the book; none where a client doesn't do it: a tag that is asked isn't sent again, a message
-- that is at fault isn't heard, and a reply that isn't there isn't given
abbrev pub after_deed : Book → Deed → Option Book
after_deed b (Sends tag body) =
    if is_asked tag b.asked then None else Some (record b { asked = b.asked ++ asking tag body ∷ [] })
after_deed b (Hears message) = after_hearing b (heard b.asked message) (r_of message)
after_deed b (Gives tag) = after_giving b tag (reply_of tag b.asked)

-- goes on where a deed could be done
abbrev pub then_deeds : (Book → Option Book) → Option Book → Option Book
then_deeds go None = None
then_deeds go (Some b) = go b

-- after all deeds, if each could be done
unfoldable pub after_deeds : List Deed → Book → Option Book
after_deeds [] b = Some b
after_deeds (d ∷ ds) b = then_deeds (after_deeds ds) (after_deed b d)

-- those with this tag
abbrev pub of_tag : ℕ → List RMsg → List RMsg
of_tag tag messages = filter (λ m. m.tag == tag) messages

-- the reply that is kept for a tag, if one is
abbrev pub kept_one : Bool → ℕ → Option RBody → List RMsg
kept_one false tag reply = []
kept_one true tag None = []
kept_one true tag (Some body) = record { tag = tag; body = body } ∷ []

-- the replies to a tag that are kept
unfoldable pub kept : ℕ → List Asked → List RMsg
kept tag [] = []
kept tag (a ∷ asked) = kept_one (a.tag == tag) a.tag a.reply ++ kept tag asked

-- Of each tag the messages that were heard are, in order, the replies that were given for it and then the one
-- that is kept, if any. So the reply that is given is the message behind the one that was given last for its tag,
-- and none is given twice.
abbrev pub GivesEachOnce : Type 0
GivesEachOnce =
    (deeds : List Deed) (b : Book) → after_deeds deeds clean ≡ Some b → (tag : ℕ) → of_tag tag b.heard
    ≡ of_tag tag b.given ++ kept tag b.asked
