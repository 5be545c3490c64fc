-- What the steps of a side that reads messages do.
use Rattle.std.specs.Prelude.{◌≡◌, ◌≢◌, ℕ, ◌≤◌, true, List, [], ◌++◌, length, Option, Some, None, Ok, Err}
use Rattle.std.specs.List.{concat}
use Rattle.am_base.specs.Outside.{then_told, AreTold, HasRisen}
use Rattle.am_base.specs.Seen.{Seen}
use Rattle.am_base.specs.Stops.{piece_limit}
use Rattle.ninep_types.specs.declared.message.TMsg.{TMsg}
use Rattle.ninep_types.specs.Reading.{t_of}
use Rattle.ninep_types.specs.Spelling.{spelling_t}
use Rattle.ninep_cut.specs.Cuts.{Stream, then_cut, cut_stream}
use Rattle.am_journal.specs.declared.ending.Bad.{Bad}
use Rattle.am_journal.specs.declared.ending.Bad.TheVariants as bad
use Rattle.am_journal.specs.declared.ending.Ending.{Ending}
use Rattle.am_journal.specs.declared.ending.Ending.TheVariants as ending
use Rattle.am_journal.specs.declared.event.Event.{Event}
use Rattle.am_journal.specs.declared.event.Event.TheVariants.{Msg}
use Rattle.am_journal.specs.declared.event.Why.{Why}
use Rattle.am_journal.specs.declared.event.Why.TheVariants as why
use Rattle.am_counter.specs.declared.ask.Ask.TheVariants.{Room}
use Rattle.am_counter.specs.Known.{Known, Looks, Submits}
use Rattle.am_counter.specs.Played.{IsPlayed, has_hang}
use Rattle.am_serve.specs.Budget.{fits_budget, IsLeft}
use Rattle.am_serve.specs.Gained.{Rule, Answers, Gains}
use Rattle.am_serve.specs.Reading.{AreMessages, spellings, AreFront, EndsAfter, HadRoomEach, ReadWithRoom}
use Rattle.am_serve.specs.declared.budget.Budget.{Budget}
use Rattle.am_serve.specs.declared.sending.Stop.{Stop}
use Rattle.am_serve.specs.declared.sending.Stop.TheVariants as stop
use Rattle.am_serve.specs.declared.sending.Sent.{Sent}
use Rattle.am_serve.specs.declared.sending.Sent.TheVariants as sent

-- the connection has ended, in a journal
abbrev pub HasEnded : Rule → ℕ → List Event → Type 0
HasEnded enabled conn seen = (has_hang seen conn ≡ true) × IsPlayed enabled seen

-- ---- one message

-- a message isn't enabled after what was seen, for this reason
abbrev pub IsRefusedAs : Rule → ℕ → List Event → List ℕ → Why → Type 0
IsRefusedAs enabled conn seen m reason = (msg : TMsg) × (t_of m ≡ Ok msg) × (enabled seen (Msg conn msg) ≡ Some reason)

-- a message is bad in this way
abbrev pub IsBad : Rule → ℕ → List Event → List ℕ → Bad → Type 0
IsBad enabled conn seen m (bad.Wire f) = t_of m ≡ Err f
IsBad enabled conn seen m bad.Size = IsRefusedAs enabled conn seen m why.Size
IsBad enabled conn seen m bad.Tag = IsRefusedAs enabled conn seen m why.Tag

-- why a connection ends at a message
abbrev pub EndsAt : Rule → ℕ → List Event → List ℕ → Ending → Type 0
EndsAt enabled conn seen m ending.End = ⊥
EndsAt enabled conn seen m ending.Torn = ⊥
EndsAt enabled conn seen m ending.ReadFault = ⊥
EndsAt enabled conn seen m (ending.Broken b) = IsBad enabled conn seen m b
EndsAt enabled conn seen m ending.Spent = ⊥
EndsAt enabled conn seen m ending.Gone = ⊥
EndsAt enabled conn seen m ending.NoMemory = Unit {0}

-- why reading stops at a message
abbrev pub StopsAt : Rule → ℕ → List Event → List ℕ → Stop → Type 0
StopsAt enabled conn seen m stop.Ended = HasEnded enabled conn seen
StopsAt enabled conn seen m (stop.Ends cause) = EndsAt enabled conn seen m cause

-- a message is submitted
abbrev pub Sends : Rule → ℕ → Known → List ℕ → Known → Type 0
Sends enabled conn v m w = (msg : TMsg) × (n : ℕ) × (m ≡ spelling_t msg) × Submits enabled v (Msg conn msg) n w

-- a message isn't submitted, and this stops reading
abbrev pub Keeps : Rule → ℕ → Known → List ℕ → Stop → Known → Type 0
Keeps enabled conn v m s w = Looks v w × StopsAt enabled conn w.seen m s

-- what came of submitting a message once
abbrev pub Tries : Rule → ℕ → Known → List ℕ → Sent → Known → Type 0
Tries enabled conn v m sent.Done w = Sends enabled conn v m w
Tries enabled conn v m sent.Waits w = Looks v w
Tries enabled conn v m (sent.Stops s) w = Keeps enabled conn v m s w

-- what comes of a message that isn't enabled for this reason
abbrev pub sent_for : Why → Sent
sent_for why.Conn = sent.Stops stop.Ended
sent_for why.Dialed = sent.Stops stop.Ended
sent_for why.Ended = sent.Stops stop.Ended
sent_for why.Size = sent.Stops (stop.Ends (ending.Broken bad.Size))
sent_for why.Tag = sent.Stops (stop.Ends (ending.Broken bad.Tag))
sent_for why.Replies = sent.Waits
sent_for why.Nothing = sent.Stops stop.Ended
sent_for why.Window = sent.Stops stop.Ended
sent_for why.Range = sent.Stops stop.Ended
sent_for why.Windows = sent.Stops stop.Ended
sent_for why.Length = sent.Stops stop.Ended
sent_for why.Tree = sent.Stops stop.Ended

-- ---- one piece

-- why reading a piece ends the connection, by what is seen of the source and by the bytes that were left of what was
-- read before
abbrev pub EndsIn : Seen → List ℕ → Ending → Type 0
EndsIn s left ending.End = (s.now.bytes ≡ s.before.bytes) × AreTold s.now.bytes [] × (left ≡ [])
EndsIn s left ending.Torn = (s.now.bytes ≡ s.before.bytes) × AreTold s.now.bytes [] × (left ≢ [])
EndsIn s left ending.ReadFault = (s.now.bytes ≡ s.before.bytes) × HasRisen s.before.faults s.now.faults
EndsIn s left (ending.Broken b) = ⊥
EndsIn s left ending.Spent = ⊥
EndsIn s left ending.Gone = ⊥
EndsIn s left ending.NoMemory = (piece : List ℕ) × (length piece ≤ piece_limit)
    × (s.before.bytes ≡ then_told piece s.now.bytes)

-- a piece was read and fed to a cutter that had these bytes
abbrev pub IsFed : Option (List ℕ) → Option (List ℕ) → List ℕ → List ℕ → Type 0
IsFed told told_now left left_now = (piece : List ℕ) × (length piece ≤ piece_limit) × (told ≡ then_told piece told_now)
    × (left_now ≡ left ++ piece)

-- why reading stops at a piece, which is read once there is room
abbrev pub StopsIn : Rule → Answers → ℕ → List Event → Seen → List ℕ → Stop → Type 0
StopsIn enabled answer conn seen s left stop.Ended = (s.now.bytes ≡ s.before.bytes) × HasEnded enabled conn seen
StopsIn enabled answer conn seen s left (stop.Ends cause) = EndsIn s left cause × (answer seen (Room conn) ≡ true)

-- ---- all so far

-- Messages were given of the bytes that were read, these bytes of them are left, and this of the budget. Reading was
-- held while there was no room.
pub record ReadSoFar (answer : Answers) (conn : ℕ) (v w : Known) (left : List ℕ) (b : Budget)
    (first now : Option (List ℕ)) : Type 0 where
  pub entries : List (ℕ × Event)
  pub gains : Gains v entries w
  pub messages : AreMessages conn entries
  pub budget : IsLeft b (spellings entries)
  pub bytes : List ℕ
  pub told : first ≡ then_told bytes now
  pub stream : cut_stream bytes ≡ then_cut (spellings entries) (cut_stream left)
  pub pieces : List (List ℕ)
  pub are : bytes ≡ concat pieces
  pub each : HadRoomEach answer conn w.seen [] pieces

-- why reading stopped after a journal, behind the messages that were given
abbrev pub StopsAfter : Rule → ℕ → List Event → List (List ℕ) → Stream → Stop → Type 0
StopsAfter enabled conn journal given stream stop.Ended = AreFront given stream.messages
StopsAfter enabled conn journal given stream (stop.Ends cause) = EndsAfter enabled conn journal given stream cause

-- the cause that a stop tells
abbrev pub cause_of : Stop → Option Ending
cause_of stop.Ended = None
cause_of (stop.Ends cause) = Some cause

-- The same, and then reading stopped.
pub record ReadUntil (enabled : Rule) (answer : Answers) (conn : ℕ) (v w : Known) (s : Stop)
    (first now : Option (List ℕ)) : Type 0 where
  pub entries : List (ℕ × Event)
  pub gains : Gains v entries w
  pub messages : AreMessages conn entries
  pub fits : fits_budget (spellings entries) ≡ true
  pub bytes : List ℕ
  pub told : first ≡ then_told bytes now
  pub stops : StopsAfter enabled conn w.seen (spellings entries) (cut_stream bytes) s
  pub with_room : ReadWithRoom answer conn w.seen bytes (cause_of s)
