-- What each counter says of connections.
use Rattle.std.specs.Prelude.{◌≡◌, ℕ, ◌<◌, Bool, List, Option}
use Rattle.ninep_types.specs.declared.message.TMsg.{TMsg}
use Rattle.am_journal.specs.declared.ending.Ending.{Ending}
use Rattle.am_journal.specs.declared.event.Event.{Event}
use Rattle.am_journal.specs.declared.event.Event.TheVariants.{Dial, Msg, Hang}
use Rattle.am_journal.specs.declared.event.Why.{Why}
use Rattle.am_journal.specs.Limits.{connection_count}
use Rattle.am_counter.specs.declared.ask.Ask.{Ask}
use Rattle.am_counter.specs.declared.ask.Ask.TheVariants.{Ended}
use Rattle.am_counter.specs.Played.{IsPlayed, has_hang, dial_why, hang_why, IsMessageWhy}

-- Over a journal of enabled events a connection was dialled, or has ended, exactly where the journal has that entry.
-- Dialling isn't enabled for the one reason that the connection was dialled.
pub record TellsConnections (enabled : List Event → Event → Option Why) (answer : List Event → Ask
    → Bool) : Type 0 where
  pub dial : (journal : List Event) (conn : ℕ) → IsPlayed enabled journal → conn < connection_count
      → enabled journal (Dial conn) ≡ dial_why journal conn
  pub hang : (journal : List Event) (conn : ℕ) (why : Ending) → IsPlayed enabled journal → conn < connection_count
      → enabled journal (Hang conn why) ≡ hang_why journal conn
  pub message : (journal : List Event) (conn : ℕ) (msg : TMsg) → IsPlayed enabled journal → conn < connection_count
      → IsMessageWhy journal conn (enabled journal (Msg conn msg))
  pub ended : (journal : List Event) (conn : ℕ) → IsPlayed enabled journal → conn < connection_count
      → answer journal (Ended conn) ≡ has_hang journal conn
