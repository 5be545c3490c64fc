-- How far a client has come with its part of a talk.
use Rattle.std.specs.Prelude.{◌≡◌, ◌≢◌, ℕ, false, List, [], ◌++◌, Option, Ok, Err}
use Rattle.am_base.specs.Outside.{BytesTold, told_then, AreTold, PutsFront, HasRisen}
use Rattle.am_base.specs.Seen.{Seen, seen}
use Rattle.ninep_cut.specs.declared.cut.Cut.TheVariants.{More}
use Rattle.ninep_cut.specs.Cuts.{cut_of}
use Rattle.ninep_client.specs.declared.fault.CallFault.{CallFault}
use Rattle.ninep_client.specs.declared.fault.CallFault.TheVariants as fault
use Rattle.ninep_client.specs.Asking.{Talk}
use Rattle.ninep_client.specs.Hearing.{Came, msize_after}
use Rattle.am_do.specs.declared.stop.Stop.{Stop}
use Rattle.am_do.specs.declared.stop.Stop.TheVariants as stop
use Rattle.am_do.specs.Talks.{Value, Lacks, Faulty, Refused, Told, Reply}

-- no tag is asked, and the client is open
pub record IsReady (t : Talk) : Type 0 where
  pub none : t.asked ≡ []
  pub live : t.is_closed ≡ false

-- the most bytes of a message, once this reply was given
abbrev pub most_behind : Reply → ℕ → ℕ
most_behind (Ok reply) most = msize_after reply most
most_behind (Err text) most = most

-- what is seen of a sink and of a source
pub record Ends : Type 0 where
  pub sink : Seen
  pub source : Seen

-- those of what the sink tells, before and now, and of what the source tells
abbrev pub ends : BytesTold → BytesTold → BytesTold → BytesTold → Ends
ends held held_now left left_now = record { sink = seen held held_now; source = seen left left_now }

module _ {A : Type 0} where
  -- The part was done: bytes came and were used, what was sent for them is put behind what the sink held, and text and
  -- value are what they give.
  pub record Went (talk : List ℕ → Told A) (t after : Talk) (held held_now left left_now : Option (List ℕ))
      (text : List ℕ) (value : A) : Type 0 where
    pub used : List ℕ
    pub sent : List ℕ
    pub came : Came left left_now t.unread (used ++ after.unread)
    pub put : held_now ≡ told_then held sent
    pub goes : (more : List ℕ) → talk (used ++ more) ≡ record { sent = sent; text = text; got = Value value more }

  -- all was sent, and the next reply isn't there
  pub record IsLeft (told : Told A) (e : Ends) (text : List ℕ) : Type 0 where
    pub lacks : told.got ≡ Lacks
    pub put : e.sink.now.bytes ≡ told_then e.sink.before.bytes told.sent
    pub said : text ≡ told.text

  -- all was sent, and the next message is at fault
  pub record IsFaulty (f : CallFault) (told : Told A) (e : Ends) (text : List ℕ) : Type 0 where
    pub faulty : told.got ≡ Faulty f
    pub put : e.sink.now.bytes ≡ told_then e.sink.before.bytes told.sent
    pub said : text ≡ told.text

  -- all was sent, and the server doesn't take the talk
  pub record IsRefused (told : Told A) (e : Ends) (text : List ℕ) : Type 0 where
    pub refused : told.got ≡ Refused
    pub put : e.sink.now.bytes ≡ told_then e.sink.before.bytes told.sent
    pub said : text ≡ told.text

  -- a front of what is sent was put, and the sink's count of faults has risen
  pub record IsCutOff (told : Told A) (e : Ends) (text : List ℕ) : Type 0 where
    pub lacks : told.got ≡ Lacks
    pub front : PutsFront e.sink.before.bytes told.sent e.sink.now.bytes
    pub risen : HasRisen e.sink.before.faults e.sink.now.faults
    pub said : text ≡ told.text

  -- memory ran out: a front of what is sent was put, and a front of what is written was said
  pub record IsStarved (told : Told A) (e : Ends) (text : List ℕ) : Type 0 where
    pub front : PutsFront e.sink.before.bytes told.sent e.sink.now.bytes
    pub rest : List ℕ
    pub said : text ++ rest ≡ told.text

  -- Why a talk has stopped, by what is told of the bytes that were used, and of those and the unread ones.
  abbrev pub StopsFor : Stop → Told A → Told A → List ℕ → Ends → List ℕ → Type 0
  StopsFor stop.Refused used all unread e text = IsRefused used e text
  StopsFor (stop.Fault fault.Ended) used all unread e text = IsLeft used e text × (unread ≡ [])
      × AreTold e.source.now.bytes []
  StopsFor (stop.Fault fault.Torn) used all unread e text = IsLeft used e text × IsLeft all e text × (unread ≢ [])
      × (cut_of unread ≡ More) × AreTold e.source.now.bytes []
  StopsFor (stop.Fault fault.ReadFault) used all unread e text = IsLeft used e text × (cut_of unread ≡ More)
      × HasRisen e.source.before.faults e.source.now.faults
  StopsFor (stop.Fault fault.WriteFault) used all unread e text = IsCutOff used e text
  StopsFor (stop.Fault (fault.Wire f)) used all unread e text = IsFaulty (fault.Wire f) all e text
  StopsFor (stop.Fault (fault.Unasked n)) used all unread e text = IsFaulty (fault.Unasked n) all e text
  StopsFor (stop.Fault (fault.Kind kind)) used all unread e text = IsFaulty (fault.Kind kind) all e text
  StopsFor (stop.Fault fault.NoMemory) used all unread e text = IsStarved used e text
  StopsFor (stop.Fault fault.Closed) used all unread e text = ⊥
  StopsFor (stop.Fault fault.Tags) used all unread e text = ⊥
  StopsFor (stop.Fault fault.Large) used all unread e text = ⊥
  StopsFor (stop.Fault (fault.Remote t)) used all unread e text = ⊥

  -- The talk has stopped: bytes came, some were used, and some are unread. This text was said before.
  pub record Halted (end : Stop) (talk : List ℕ → Told A) (t : Talk) (e : Ends) (text : List ℕ) : Type 0 where
    pub used : List ℕ
    pub unread : List ℕ
    pub came : Came e.source.before.bytes e.source.now.bytes t.unread (used ++ unread)
    pub cause : StopsFor end (talk used) (talk (used ++ unread)) unread e text
