-- What holds of all that openings are given.
use Rattle.std.specs.Prelude.{◌≡◌, ◌≢◌, ◌==◌, ◌+◌, ◌≤◌, nat_le, length, ℕ, Bool, true, false, List, [], ◌∷◌, ◌++◌}
use Rattle.std.specs.Prelude.{Option, Some, None, if◌then◌else◌}
use Rattle.std.specs.List.{Contains, concat, list_all, list_any}
use Rattle.wait_queue.specs.Laws.{AddsNone, AddsOnly}
use Rattle.wait_queue.specs.Reads.{is_read}
use Rattle.wait_queue.specs.declared.types.Asker.{Asker}
use Rattle.wait_queue.specs.declared.types.Piece.{Piece}
use Rattle.plumb_ports.specs.Limits.{kept_messages}
use Rattle.plumb_ports.specs.PortList.{number_of, kept_of}
use Rattle.plumb_ports.specs.Inboxes.{Inbox, inbox_of, is_on}
use Rattle.plumb_ports.specs.PortsState.{PortsState, beginning, HasJoined, has_joined, is_open, read_waits, piece_for}
use Rattle.plumb_ports.specs.PortsState.{next_of, served_of, refusal, after_add, after_join, after_deliver}
use Rattle.plumb_ports.specs.PortsState.{delivered_at, after_ask, after_serve, after_cancel, after_leave, after_answer}

-- a call that isn't refused
pub data Call : Type 0 where
  Add : List ℕ → Call
  Join : ℕ → ℕ → Call
  Deliver : List ℕ → List ℕ → Bool → Call
  Ask : Asker → Call
  Serve : Call
  Cancel : ℕ → ℕ → Call
  Leave : ℕ → Call

-- an opening joins once, and a refused message isn't delivered
abbrev pub IsAllowed : PortsState → Call → Type 0
IsAllowed s (Add name) = Unit {0}
IsAllowed s (Join port opening) = has_joined s opening ≡ false
IsAllowed s (Deliver name message keep) = refusal s name keep ≡ None
IsAllowed s (Ask r) = Unit {0}
IsAllowed s Serve = Unit {0}
IsAllowed s (Cancel conn tag) = Unit {0}
IsAllowed s (Leave opening) = Unit {0}

-- what a call makes of the ports
abbrev pub after_call : PortsState → Call → PortsState
after_call s (Add name) = after_add s name
after_call s (Join port opening) = after_join s port opening
after_call s (Deliver name message keep) = after_deliver s name message
after_call s (Ask r) = after_ask s r
after_call s Serve = after_serve s
after_call s (Cancel conn tag) = after_cancel s conn tag
after_call s (Leave opening) = after_leave s opening

-- what is still to come for an opening: what it has left, and then its messages
abbrev pub owed_in : Inbox → List ℕ
owed_in o = o.carry ++ concat o.messages

-- the bytes that an opening has yet to get
abbrev pub owed : PortsState → ℕ → List ℕ
owed s opening = owed_in (inbox_of s.openings opening)

-- the bytes of an answer to this read, where it is one on the opening
abbrev pub answer_to : PortsState → Asker → ℕ → List ℕ
answer_to s r opening = if r.opening == opening then (piece_for s r).bytes else []

-- the bytes that the next answer gives to an opening
abbrev pub served_to : PortsState → Option Asker → ℕ → List ℕ
served_to s None opening = []
served_to s (Some r) opening = answer_to s r opening

-- the bytes that the call gives to the opening: only an answer to a read gives any
abbrev pub given_by : PortsState → Call → ℕ → List ℕ
given_by s (Add name) opening = []
given_by s (Join port o) opening = []
given_by s (Deliver name message keep) opening = []
given_by s (Ask r) opening = if read_waits s r then [] else answer_to s r opening
given_by s Serve opening = served_to s (next_of s) opening
given_by s (Cancel conn tag) opening = []
given_by s (Leave o) opening = []

-- a message to a port is for each of its openings
abbrev pub message_to : Option ℕ → List ℕ → Inbox → List ℕ
message_to None message o = []
message_to (Some port) message o = if is_on port o then message else []

-- what the call delivers to the opening: what the port keeps, where it is the one that joins, or the message
abbrev pub delivered_by : PortsState → Call → ℕ → List ℕ
delivered_by s (Add name) opening = []
delivered_by s (Join port o) opening = if o == opening then concat (kept_of s.ports port) else []
delivered_by s (Deliver name message keep) opening = message_to (number_of s.ports name) message
    (inbox_of s.openings opening)
delivered_by s (Ask r) opening = []
delivered_by s Serve opening = []
delivered_by s (Cancel conn tag) opening = []
delivered_by s (Leave o) opening = []

-- What a call gives to an opening that is there after it, with what is then still to come, is what was
-- to come before with what the call delivers.
abbrev pub LosesNothing : Type 0
LosesNothing =
    (s : PortsState) (c : Call) (opening : ℕ) → IsAllowed s c → HasJoined (after_call s c) opening →
    given_by s c opening ++ owed (after_call s c) opening ≡ owed s opening ++ delivered_by s c opening

-- ---- many calls

-- what calls make of the ports
abbrev pub run : PortsState → List Call → PortsState
run s [] = s
run s (c ∷ cs) = run (after_call s c) cs

-- each call is allowed where it comes
abbrev pub AreAllowed : PortsState → List Call → Type 0
AreAllowed s [] = Unit {0}
AreAllowed s (c ∷ cs) = IsAllowed s c × AreAllowed (after_call s c) cs

-- the opening is there after each call
abbrev pub Stays : PortsState → List Call → ℕ → Type 0
Stays s [] opening = Unit {0}
Stays s (c ∷ cs) opening = HasJoined (after_call s c) opening × Stays (after_call s c) cs opening

-- the bytes that calls gave to an opening
abbrev pub all_given : PortsState → List Call → ℕ → List ℕ
all_given s [] opening = []
all_given s (c ∷ cs) opening = given_by s c opening ++ all_given (after_call s c) cs opening

-- the bytes that calls delivered for an opening
abbrev pub all_delivered : PortsState → List Call → ℕ → List ℕ
all_delivered s [] opening = []
all_delivered s (c ∷ cs) opening = delivered_by s c opening ++ all_delivered (after_call s c) cs opening

-- Each opening of a port gets each message that is delivered while it is there, in order: what it was
-- given, with what is still to come, is what was to come at first with all that was delivered since.
abbrev pub GetsEachMessage : Type 0
GetsEachMessage =
    (s : PortsState) (cs : List Call) (opening : ℕ) → AreAllowed s cs → Stays s cs opening →
    all_given s cs opening ++ owed (run s cs) opening ≡ owed s opening ++ all_delivered s cs opening

-- before it joins, nothing is to come for an opening
abbrev pub BeginsWithNothing : Type 0
BeginsWithNothing = (s : PortsState) (opening : ℕ) → has_joined s opening ≡ false → owed s opening ≡ []

-- A kept message is delivered once: the opening that takes it leaves the port none, the other ports
-- theirs, and what is copied to openings isn't kept, nor what is kept copied.
pub record KeptOnce : Type 0 where
  pub taken : (s : PortsState) (port opening : ℕ) → kept_of (after_join s port opening).ports port ≡ []
  pub others : (s : PortsState) (port other opening : ℕ) → other ≢ port
      → kept_of (after_join s port opening).ports other ≡ kept_of s.ports other
  pub copied : (s : PortsState) (port : ℕ) (message : List ℕ) → is_open s port ≡ true →
      (delivered_at s port message).ports ≡ s.ports
  pub kept : (s : PortsState) (port : ℕ) (message : List ℕ) → is_open s port ≡ false →
      (delivered_at s port message).openings ≡ s.openings

-- an answer to a read leaves the other openings
abbrev pub LeavesOthers : Type 0
LeavesOthers =
    (s : PortsState) (r : Asker) (other : ℕ) → other ≢ r.opening →
    inbox_of (after_answer s r).openings other ≡ inbox_of s.openings other

-- no read with that connection and tag waits after the cancel
abbrev pub CancelledIsGone : Type 0
CancelledIsGone =
    (s : PortsState) (conn tag : ℕ) → list_any (is_read conn tag) (after_cancel s conn tag).reads ≡ false

-- nor is one the next
abbrev pub CancelledIsNotNext : Type 0
CancelledIsNotNext =
    (s : PortsState) (conn tag : ℕ) (r : Asker) →
    next_of (after_cancel s conn tag) ≡ Some r → is_read conn tag r ≡ false

-- no call but `ask` makes a read wait, and that one the read that it is called for
abbrev pub WaitsAfter : Call → List Asker → List Asker → Type 0
WaitsAfter (Add name) before after = AddsNone before after
WaitsAfter (Join port opening) before after = AddsNone before after
WaitsAfter (Deliver name message keep) before after = AddsNone before after
WaitsAfter (Ask r) before after = AddsOnly r before after
WaitsAfter Serve before after = AddsNone before after
WaitsAfter (Cancel conn tag) before after = AddsNone before after
WaitsAfter (Leave opening) before after = AddsNone before after

-- only a read that asks begins to wait
abbrev pub OnlyAskWaits : Type 0
OnlyAskWaits = (s : PortsState) (call : Call) → WaitsAfter call s.reads (after_call s call).reads

-- what `serve` answers waited
abbrev pub ServedWaited : Type 0
ServedWaited = (s : PortsState) (r : Asker) (piece : Piece) → served_of s ≡ Some (r, piece) → Contains s.reads r

-- no opening has a number beyond those that ever joined
abbrev pub is_numbered : ℕ → Inbox → Bool
is_numbered count o = nat_le o.opening count

-- so it is with each opening that is there
abbrev pub AreNumbered : PortsState → Type 0
AreNumbered s = list_all (is_numbered s.joined) s.openings ≡ true

-- an opening that joins has the next number
abbrev pub IsNumbered : PortsState → Call → Type 0
IsNumbered s (Add name) = Unit {0}
IsNumbered s (Join port opening) = opening ≡ s.joined + 1
IsNumbered s (Deliver name message keep) = Unit {0}
IsNumbered s (Ask r) = Unit {0}
IsNumbered s Serve = Unit {0}
IsNumbered s (Cancel conn tag) = Unit {0}
IsNumbered s (Leave opening) = Unit {0}

-- so it stays, and one that is there has such a number
pub record NumbersRise (s : PortsState) : Type 0 where
  pub stays : (c : Call) → IsNumbered s c → AreNumbered (after_call s c)
  pub within : (opening : ℕ) → HasJoined s opening → opening ≤ s.joined

-- so they are after any calls
abbrev pub OpeningsAreNumbered : Type 0
OpeningsAreNumbered = (s : PortsState) → AreNumbered s → NumbersRise s

-- no port keeps more than 64 messages, and one with an opening keeps none
pub record IsLawful (s : PortsState) : Type 0 where
  pub few : (port : ℕ) → length (kept_of s.ports port) ≤ kept_messages
  pub none : (port : ℕ) → is_open s port ≡ true → kept_of s.ports port ≡ []

-- that holds from the beginning on, whatever calls are made
abbrev pub StaysLawful : Type 0
StaysLawful = (cs : List Call) → AreAllowed beginning cs → IsLawful (run beginning cs)
