-- What a side that reads messages does.
use Rattle.std.specs.Prelude.{◌≡◌, ◌≢◌, ◌⊎◌, ℕ, ◌+◌, ◌≤◌, ◌==◌, true, false, List, [], ◌∷◌, ◌++◌, length, Option, Some}
use Rattle.std.specs.Prelude.{None, Ok, Err, if◌then◌else◌}
use Rattle.std.specs.List.{concat, flat_map, AllByRecursion}
use Rattle.am_base.specs.Outside.{then_told}
use Rattle.am_base.specs.Stops.{piece_limit}
use Rattle.ninep_types.specs.declared.fault.WireFault.{WireFault}
use Rattle.ninep_types.specs.declared.fault.WireFault.TheVariants as wire
use Rattle.ninep_types.specs.declared.message.TMsg.{TMsg}
use Rattle.ninep_types.specs.Reading.{t_of}
use Rattle.ninep_types.specs.Spelling.{spelling_t}
use Rattle.ninep_cut.specs.declared.cut.Cut.TheVariants.{More, Broken}
use Rattle.ninep_cut.specs.Cuts.{Stream, cut_of, cut_stream}
use Rattle.am_journal.specs.declared.ending.Bad.{Bad}
use Rattle.am_journal.specs.declared.ending.Bad.TheVariants as bad
use Rattle.am_journal.specs.declared.ending.Ending.{Ending}
use Rattle.am_journal.specs.declared.ending.Ending.TheVariants as ending
use Rattle.am_journal.specs.declared.event.Event.{Event}
use Rattle.am_journal.specs.declared.event.Event.TheVariants as event
use Rattle.am_journal.specs.declared.event.Why.{Why}
use Rattle.am_journal.specs.declared.event.Why.TheVariants as why
use Rattle.am_counter.specs.declared.ask.Ask.TheVariants.{Room}
use Rattle.am_counter.specs.Known.{Known}
use Rattle.am_counter.specs.Played.{IsPrefix, has_hang}
use Rattle.am_serve.specs.Budget.{fits_budget}
use Rattle.am_serve.specs.Gained.{Rule, Answers, gained}

-- ---- entries

-- each entry is a message that came on the connection
abbrev pub AreMessages : ℕ → List (ℕ × Event) → Type 0
AreMessages conn entries = AllByRecursion (λ x. (msg : TMsg) × (x.1 ≡ event.Msg conn msg)) entries

-- the bytes of a message
abbrev pub spelling_of : Event → List (List ℕ)
spelling_of (event.Dial c) = []
spelling_of (event.Msg c msg) = spelling_t msg ∷ []
spelling_of (event.Hang c why) = []
spelling_of (event.Took c) = []
spelling_of event.New = []
spelling_of (event.Key w side text) = []
spelling_of (event.Sel w range) = []
spelling_of (event.Exec at) = []
spelling_of (event.Arg at chord) = []
spelling_of (event.Look at) = []
spelling_of (event.File path text) = []
spelling_of (event.Dir path) = []

-- the bytes of each message of these entries
abbrev pub spellings : List (ℕ × Event) → List (List ℕ)
spellings entries = flat_map (λ x. spelling_of x.1) entries

-- Behind its messages stands the hang-up with the cause that a side answered, where no other stood; with none it made
-- no hang-up.
abbrev pub AreRead : ℕ → Option Ending → Known → Known → Type 0
AreRead conn None v w = AreMessages conn (gained v w)
AreRead conn (Some why) v w =
    (entries : List (ℕ × Event)) × (now : List Event) × AreMessages conn entries × (has_hang now conn ≡ false)
    × (gained v w ≡ entries ++ (length now + 1, event.Hang conn why) ∷ []) × (w.seen ≡ now ++ event.Hang conn why ∷ [])

-- ---- a journal

-- the bytes of an event's message, where it is one on this connection
abbrev pub spelled_on : ℕ → Event → List (List ℕ)
spelled_on conn (event.Dial c) = []
spelled_on conn (event.Msg c msg) = if c == conn then spelling_t msg ∷ [] else []
spelled_on conn (event.Hang c why) = []
spelled_on conn (event.Took c) = []
spelled_on conn event.New = []
spelled_on conn (event.Key w side text) = []
spelled_on conn (event.Sel w range) = []
spelled_on conn (event.Exec at) = []
spelled_on conn (event.Arg at chord) = []
spelled_on conn (event.Look at) = []
spelled_on conn (event.File path text) = []
spelled_on conn (event.Dir path) = []

-- the bytes of each message that came on the connection
abbrev pub messages_of : List Event → ℕ → List (List ℕ)
messages_of journal conn = flat_map (spelled_on conn) journal

-- these messages stand among all, in their order
abbrev pub StandAmong : List (List ℕ) → List (List ℕ) → Type 0
StandAmong [] all = Unit {0}
StandAmong (m ∷ messages) all = (before : List (List ℕ)) × (after : List (List ℕ)) × (all ≡ before ++ m ∷ after)
    × StandAmong messages after

-- What was seen begins with a journal that has all messages that were given, and no hang-up of the connection.
pub record IsTurn (conn : ℕ) (seen : List Event) (given : List (List ℕ)) (journal : List Event) : Type 0 where
  pub front : IsPrefix journal seen
  pub messages : StandAmong given (messages_of journal conn)
  pub goes_on : has_hang journal conn ≡ false

-- ---- the stream

-- the messages begin with those that were given
abbrev pub AreFront : List (List ℕ) → List (List ℕ) → Type 0
AreFront given messages = (more : List (List ℕ)) × (messages ≡ given ++ more)

-- the message behind those that were given
abbrev pub IsNext : List (List ℕ) → List (List ℕ) → List ℕ → Type 0
IsNext given messages m = (more : List (List ℕ)) × (messages ≡ given ++ m ∷ more)

-- the next message, which the budget still has
abbrev pub IsDue : List (List ℕ) → Stream → List ℕ → Type 0
IsDue given stream m = IsNext given stream.messages m × (fits_budget (given ++ m ∷ []) ≡ true)

-- the next message isn't enabled after a journal, for this reason
abbrev pub NextRefused : Rule → ℕ → List Event → List (List ℕ) → Stream → Why → Type 0
NextRefused enabled conn journal given stream reason =
    (m : List ℕ) × (msg : TMsg) × IsDue given stream m × (t_of m ≡ Ok msg)
    × (enabled journal (event.Msg conn msg) ≡ Some reason)

-- the next message has this fault
abbrev pub NextFaulty : List (List ℕ) → Stream → WireFault → Type 0
NextFaulty given stream f = (m : List ℕ) × IsDue given stream m × (t_of m ≡ Err f)

-- a size that no message has stands behind the messages
abbrev pub SizeFaulty : List (List ℕ) → Stream → Type 0
SizeFaulty given stream = (size : ℕ) × (given ≡ stream.messages) × (cut_of stream.rest ≡ Broken size)

-- what is wrong behind the messages that were given
abbrev pub IsBroken : Rule → ℕ → List Event → List (List ℕ) → Stream → Bad → Type 0
IsBroken enabled conn journal given stream (bad.Wire f) = NextFaulty given stream f
    ⊎ ((f ≡ wire.Size) × SizeFaulty given stream)
IsBroken enabled conn journal given stream bad.Size = NextRefused enabled conn journal given stream why.Size
IsBroken enabled conn journal given stream bad.Tag = NextRefused enabled conn journal given stream why.Tag

-- Why a stream that was read ends a connection after a journal, behind the messages that were given. What stands next
-- decides: where it is beyond the budget or broken, no other cause is left but want of memory.
abbrev pub EndsAfter : Rule → ℕ → List Event → List (List ℕ) → Stream → Ending → Type 0
EndsAfter enabled conn journal given stream ending.End = (given ≡ stream.messages) × (stream.rest ≡ [])
EndsAfter enabled conn journal given stream ending.Torn = (given ≡ stream.messages) × (cut_of stream.rest ≡ More)
    × (stream.rest ≢ [])
EndsAfter enabled conn journal given stream ending.ReadFault = (given ≡ stream.messages) × (cut_of stream.rest ≡ More)
EndsAfter enabled conn journal given stream (ending.Broken b) = IsBroken enabled conn journal given stream b
EndsAfter enabled conn journal given stream ending.Spent = (m : List ℕ) × IsNext given stream.messages m
    × (fits_budget (given ++ m ∷ []) ≡ false)
EndsAfter enabled conn journal given stream ending.Gone = ⊥
EndsAfter enabled conn journal given stream ending.NoMemory = AreFront given stream.messages

-- Which messages of a stream that was read were given, and what is left of it, with each answer.
abbrev pub Gives : Rule → ℕ → List Event → List (List ℕ) → Stream → Option Ending → Type 0
Gives enabled conn seen given stream None = AreFront given stream.messages
Gives enabled conn seen given stream (Some why) = (journal : List Event) × IsTurn conn seen given journal
    × EndsAfter enabled conn journal given stream why

-- ---- room

-- At a turn the connection had room for a reply, and all messages of these bytes had come: what was seen begins with
-- the journal of that turn.
pub record HadRoom (answer : Answers) (conn : ℕ) (seen : List Event) (bytes : List ℕ) : Type 0 where
  pub journal : List Event
  pub front : IsPrefix journal seen
  pub messages : StandAmong (cut_stream bytes).messages (messages_of journal conn)
  pub room : answer journal (Room conn) ≡ true

-- behind these bytes pieces were read, one after another, none longer than one read gives, and each once there was room
abbrev pub HadRoomEach : Answers → ℕ → List Event → List ℕ → List (List ℕ) → Type 0
HadRoomEach answer conn seen before [] = Unit {0}
HadRoomEach answer conn seen before (piece ∷ pieces) = (length piece ≤ piece_limit) × HadRoom answer conn seen before
    × HadRoomEach answer conn seen (before ++ piece) pieces

-- a cause that a read itself tells: it was made, and gave no piece
abbrev pub IsOfRead : Option Ending → Type 0
IsOfRead None = ⊥
IsOfRead (Some ending.End) = Unit {0}
IsOfRead (Some ending.Torn) = Unit {0}
IsOfRead (Some ending.ReadFault) = Unit {0}
IsOfRead (Some (ending.Broken what)) = ⊥
IsOfRead (Some ending.Spent) = ⊥
IsOfRead (Some ending.Gone) = ⊥
IsOfRead (Some ending.NoMemory) = ⊥

-- Reading was held while there was no room: bytes were read in pieces, each once there was room, and so was the last
-- read made.
pub record ReadWithRoom (answer : Answers) (conn : ℕ) (seen : List Event) (bytes : List ℕ) (read : Option Ending) : Type
    0 where
  pub pieces : List (List ℕ)
  pub are : bytes ≡ concat pieces
  pub each : HadRoomEach answer conn seen [] pieces
  pub last : IsOfRead read → HadRoom answer conn seen bytes

-- Bytes were read from a source, and reading was held while there was no room. Of the bytes these messages were given,
-- no more than the budget has.
abbrev pub GivesOf : Rule → Answers → ℕ → List Event → List (List ℕ) → Option (List ℕ) → Option (List ℕ) → Option Ending
    → Type 0
GivesOf enabled answer conn seen given first now read =
    (bytes : List ℕ) × (first ≡ then_told bytes now) × (fits_budget given ≡ true)
    × Gives enabled conn seen given (cut_stream bytes) read
    × ReadWithRoom answer conn seen bytes read
