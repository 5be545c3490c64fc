-- What the editor keeps of its journal, and of a plan.
use Rattle.std.specs.Prelude.{◌≡◌, ℕ, ◌+◌, ◌<◌, ◌≤◌, ◌^◌, length, Option, Some, None}
use Rattle.am_text.specs.Room.{Room}
use Rattle.am_journal.specs.declared.event.Event.{Event}
use Rattle.am_journal.specs.declared.event.Format.{Format}
use Rattle.am_journal.specs.Journal.{journal_in}
use Rattle.am_journal.specs.Lawful.{IsLawful}
use Rattle.core_windows.specs.Stories.{AreLawful}
use Rattle.core_events.specs.Sound.{IsSound, IsIdle}
use Rattle.core_events.specs.PortSound.{ArePortsSound, ArePortsIdle}
use Rattle.core_watch.specs.Sound.{IsWatchSound, IsWatchIdle}
use Rattle.core_parts.specs.declared.parts.Parts.{Parts}
use Rattle.core_closing.specs.declared.prepared.Prepared.{Prepared}
use Rattle.core_parts.specs.Connections.{connections_after, live_count, AreJoined}
use Rattle.core_intents.specs.Doings.{enabled_at, doing_of, CanBeDone}
use Rattle.core_parts.specs.Kinds.{kind_of}
use Rattle.core_parts.specs.Parts.{present_of, AreSteady}
use Rattle.core_steps.specs.Ready.{HasReady}
use Rattle.am_journal.specs.Limits.{connection_count}
use Rattle.acme_core.specs.Run.{run, present_after, AreEnabled, IsPossible}
use Rattle.core_parts.specs.States.{Present}

-- the event of a plan that waits
abbrev pub planned_of : Option Prepared → Option Event
planned_of None = None
planned_of (Some prepared) = Some prepared.event

-- the hang-ups of these connections have entries, and these have numbers
pub record HasEntries (entries spare lives : ℕ) : Type 0 where
  pub room : lives ≤ spare
  pub numbers : entries + lives < 2 ^ 64

-- All is ready for a step of the editor in this state, also an entry for it and for the hang-ups of the
-- connections that then live.
pub record IsPrepared (s : Present) (spare : ℕ) (parts : Parts) (prepared : Prepared) : Type 0 where
  pub lawful : IsLawful prepared.event
  pub allowed : enabled_at s prepared.event ≡ None
  pub possible : CanBeDone s (doing_of s prepared.event)
  pub ready : HasReady parts prepared (doing_of s prepared.event)
  pub entries : HasEntries s.entries spare (live_count
      (connections_after parts.connections.items (kind_of prepared.event)) + 1)

-- Where no plan waits, nothing is ready in the tables either.
abbrev pub IsReady : Present → ℕ → Parts → Option Prepared → Type 0
IsReady s spare parts None = AreSteady parts
IsReady s spare parts (Some prepared) = IsPrepared s spare parts prepared

-- what holds of the tables themselves
pub record AreSound (parts : Parts) : Type 0 where
  pub conns : length parts.connections.items ≡ connection_count
  pub joined : AreJoined parts.connections.items parts.sessions.kept
  pub book : IsSound parts.entries parts.scene.book.kept
  pub idle : IsIdle parts.scene.book.kept
  pub ports : ArePortsSound parts.scene.ports.kept
  pub ports_idle : ArePortsIdle parts.scene.ports.kept
  pub watch : IsWatchSound parts.scene.watch.kept
  pub watch_idle : IsWatchIdle parts.scene.watch.kept

-- The events of the journal of this format were enabled and could be done, the tables are as it leads to, its windows
-- are lawful, and there is an entry for the hang-up of each connection that lives.
pub record IsKept (format : Format) (entries : Room Event) (parts : Parts) (prepared : Option Prepared) : Type 0 where
  pub played : AreEnabled (journal_in format entries.items)
  pub possible : IsPossible (journal_in format entries.items)
  pub state : present_of parts ≡ present_after (journal_in format entries.items)
  pub lawful : AreLawful (run (journal_in format entries.items)).windows
  pub counted : parts.entries ≡ length entries.items
  pub sound : AreSound parts
  pub hangs : HasEntries parts.entries entries.spare (live_count parts.connections.items)
  pub ready : IsReady (present_after (journal_in format entries.items)) entries.spare parts prepared
