-- The entries of the two seats of a connection.
use Rattle.std.specs.Prelude.{◌≡◌, ◌⊎◌, ℕ, true, List, [], ◌∷◌, ◌++◌, Option, Some, None}
use Rattle.turn_lock.specs.Journal.{Stands}
use Rattle.am_base.specs.Outside.{AreTold}
use Rattle.am_journal.specs.declared.ending.Ending.{Ending}
use Rattle.am_journal.specs.declared.ending.Ending.TheVariants as ending
use Rattle.am_journal.specs.declared.event.Event.{Event}
use Rattle.am_journal.specs.declared.event.Event.TheVariants.{Dial, Hang}
use Rattle.am_journal.specs.declared.event.Refused.{Refused}
use Rattle.am_counter.specs.Played.{IsPrefix, has_hang, Refuses}
use Rattle.am_serve.specs.Gained.{Rule, Answers}
use Rattle.am_serve.specs.Reading.{AreMessages, GivesOf, spellings}
use Rattle.am_serve.specs.Writing.{AreTakings, taken_bytes, Gets}
use Rattle.am_serve.specs.declared.writing.WriteEnd.{WriteEnd}
use Rattle.am_serve.specs.declared.writing.WriteEnd.TheVariants as end
use Rattle.am_slots.specs.Connection.{IsDrained}

-- its dialling was refused so, after a journal with which what was seen begins
abbrev pub WasRefused : Rule → ℕ → List Event → Refused → Type 0
WasRefused enabled conn seen refused = (now : List Event) × IsPrefix now seen
    × Refuses refused (enabled now (Dial conn))

-- the hang-up of a connection with this cause, as an entry
abbrev pub IsHangUp : ℕ → Ending → List (ℕ × Event) → Type 0
IsHangUp conn why entries = (n : ℕ) × (entries ≡ (n, Hang conn why) ∷ [])

-- the hang-up that a side made which reads and answered so
abbrev pub HangsAfterReading : ℕ → Option Ending → List (ℕ × Event) → Type 0
HangsAfterReading conn None entries = entries ≡ []
HangsAfterReading conn (Some why) entries = IsHangUp conn why entries

-- the hang-up that a side made which writes and answered so; none where another had ended the connection
abbrev pub HangsAfterWriting : ℕ → WriteEnd → List (ℕ × Event) → Type 0
HangsAfterWriting conn end.Ended entries = entries ≡ []
HangsAfterWriting conn end.Gone entries = (entries ≡ []) ⊎ IsHangUp conn ending.Gone entries
HangsAfterWriting conn end.NoMemory entries = (entries ≡ []) ⊎ IsHangUp conn ending.NoMemory entries

-- What a seat that dials a connection and reads has added: the dialling, messages of the bytes that were read, each
-- piece of which was read once there was room, and a hang-up.
pub record Reads (enabled : Rule) (answer : Answers) (conn : ℕ) (seen : List Event) (first now : Option (List ℕ))
    (read : Option Ending) (entries : List (ℕ × Event)) : Type 0 where
  pub number : ℕ
  pub messages : List (ℕ × Event)
  pub hang : List (ℕ × Event)
  pub are : entries ≡ (number, Dial conn) ∷ messages ++ hang
  pub are_messages : AreMessages conn messages
  pub hangs : HangsAfterReading conn read hang
  pub gives : GivesOf enabled answer conn seen (spellings messages) first now read

-- What a seat that writes has added: the takings of replies, which its sink got, and a hang-up. Where it answers that
-- the connection has ended, nothing was unsent then.
pub record Writes (unsent : List Event → ℕ → List ℕ) (conn : ℕ) (seen : List Event) (wrote : WriteEnd)
    (held : Option (List ℕ)) (entries : List (ℕ × Event)) : Type 0 where
  pub takings : List (ℕ × Event)
  pub hang : List (ℕ × Event)
  pub first : Option (List ℕ)
  pub are : entries ≡ takings ++ hang
  pub are_takings : AreTakings conn takings
  pub hangs : HangsAfterWriting conn wrote hang
  pub stand : Stands seen 0 entries
  pub begins_empty : AreTold first []
  pub gets : Gets wrote first (taken_bytes unsent seen entries) held
  pub drained : wrote ≡ end.Ended → IsDrained unsent seen conn

-- A connection's seats, the first of which took in the second: what they have added, as far as a journal was seen that
-- has the hang-up.
pub record Serves (enabled : Rule) (unsent : List Event → ℕ → List ℕ) (answer : Answers) (conn : ℕ) (seen : List Event)
    (first now : Option (List ℕ)) (read : Option Ending) (wrote : WriteEnd) (held : Option (List ℕ))
    (lists : List (List (ℕ × Event))) : Type 0 where
  pub reads : List (ℕ × Event)
  pub writes : List (ℕ × Event)
  pub are : lists ≡ reads ∷ writes ∷ []
  pub reading : Reads enabled answer conn seen first now read reads
  pub writing : Writes unsent conn seen wrote held writes
  pub ended : has_hang seen conn ≡ true
