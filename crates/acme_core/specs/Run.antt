-- A journal, and the editor that it leads to.
use Rattle.std.specs.Prelude.{◌≡◌, ℕ, true, List, [], ◌∷◌, ◌++◌, Option, Some, None}
use Rattle.std.specs.List.{fold}
use Rattle.am_journal.specs.declared.event.Event.{Event}
use Rattle.am_journal.specs.declared.event.Format.{Format}
use Rattle.am_journal.specs.declared.event.Journal.{Journal}
use Rattle.am_journal.specs.declared.event.Why.{Why}
use Rattle.am_journal.specs.declared.event.Refused.{Refused}
use Rattle.am_journal.specs.declared.event.Refused.TheVariants.{NotEnabled, NoMemory}
use Rattle.am_journal.specs.Journal.{journal_in, longer}
use Rattle.am_counter.specs.Played.{IsPlayed}
use Rattle.core_parts.specs.States.{Present, State, present, start_of}
use Rattle.core_intents.specs.Doings.{enabled_at, doing_of, CanBeDone}
use Rattle.core_steps.specs.Stages.{after_story}
use Rattle.core_outputs.specs.Unsent.{unsent_at}
use Rattle.core_parts.specs.Kinds.{is_hang}

-- one event: what it does is told by the editor as it stands
unfoldable pub step : State → Event → State
step s e = after_story s (present s) e (doing_of (present s) e)

-- all events of a journal, one after another, from the empty editor of its format
unfoldable pub run : Journal → State
run journal = fold step (start_of journal.format) journal.events

-- the editor as it stands after a journal
abbrev pub present_after : Journal → Present
present_after journal = present (run journal)

-- the reason for which an event isn't enabled after a journal
abbrev pub enabled : Journal → Event → Option Why
enabled journal e = enabled_at (present_after journal) e

-- the unsent replies of a connection after a journal, as bytes
abbrev pub output_at : Journal → ℕ → List ℕ
output_at journal conn = (unsent_at (run journal).unsent conn).bytes

-- the same, of the events of a journal of this format
abbrev pub enabled_in : Format → List Event → Event → Option Why
enabled_in format events e = enabled (journal_in format events) e

abbrev pub output_in : Format → List Event → ℕ → List ℕ
output_in format events conn = output_at (journal_in format events) conn

-- each event of a journal is lawful, and was enabled at its place
abbrev pub AreEnabled : Journal → Type 0
AreEnabled journal = IsPlayed (enabled_in journal.format) journal.events

-- what each of these events does could be done, after those before it: what its deeds name was
-- there, and lay in the text
unfoldable pub ArePossible : Journal → List Event → Type 0
ArePossible before [] = Unit {0}
ArePossible before (e ∷ events) =
    CanBeDone (present_after before) (doing_of (present_after before) e) × ArePossible (longer before e) events

-- what each event of a journal does could be done at its place
abbrev pub IsPossible : Journal → Type 0
IsPossible journal = ArePossible (journal_in journal.format []) journal.events

-- A step is refused for the reason why its event isn't enabled, and for want of memory only where it is.
abbrev pub Refuses : Refused → Option Why → Type 0
Refuses (NotEnabled why) enabled = enabled ≡ Some why
Refuses NoMemory enabled = enabled ≡ None

-- A hang-up takes no memory: its entry was reserved when its connection was dialled.
abbrev pub IsHang : Event → Type 0
IsHang e = is_hang e ≡ true

-- an event was refused for a reason, and not for want of memory
abbrev pub IsWhy : Refused → Type 0
IsWhy (NotEnabled why) = Unit {0}
IsWhy NoMemory = ⊥

-- what contracts see of a core: its journal, and the event that the last plan made ready, if it wasn't committed
pub record Editor : Type 0 where
  pub journal : Journal
  pub planned : Option Event

-- a core without a plan that waits
abbrev pub settled : Journal → Editor
settled journal = record { journal = journal; planned = None }

-- a core that is ready for an event
abbrev pub ready : Journal → Event → Editor
ready journal e = record { journal = journal; planned = Some e }
