-- How serving ends.
use Rattle.std.specs.Prelude.{◌≡◌, ◌⊎◌, ℕ, ◌<◌, ◌≤◌, Bool, true, false, List, [], ◌++◌, length, Option, Some, None}
use Rattle.std.specs.Prelude.{IfSome, if◌then◌else◌, codes}
use Rattle.std.specs.List.{list_any, AllByRecursion}
use Rattle.am_base.specs.Outside.{AreTold, HasRisen}
use Rattle.am_base.specs.Stops.{input_limit}
use Rattle.am_base.specs.Seen.{Given, HostSeen, Seen}
use Rattle.am_base.specs.Written.{IsWhole, IsCut, IsPut}
use Rattle.am_journal.specs.declared.ending.Ending.{Ending}
use Rattle.am_journal.specs.declared.ending.Ending.TheVariants as ending
use Rattle.am_journal.specs.declared.event.Format.TheVariants.{Two}
use Rattle.am_journal.specs.declared.event.Journal.{Journal}
use Rattle.am_journal.specs.Journal.{journal_in}
use Rattle.am_journal.specs.Lawful.{IsInRange}
use Rattle.am_journal.specs.Texts.{refused_text}
use Rattle.acme_core.specs.Asks.{answers_in}
use Rattle.acme_core.specs.Run.{enabled_in, output_in, AreEnabled}
use Rattle.am_serve.specs.declared.scripting.ScriptEnd.{ScriptEnd}
use Rattle.am_serve.specs.declared.scripting.ScriptEnd.TheVariants as script
use Rattle.am_serve.specs.declared.writing.WriteEnd.TheVariants as write
use Rattle.am_slots.specs.Serving.{EachTells, IsRun}
use Rattle.am_slots.specs.Slots.{Outside, unbound, HasGiven, HasRisenBy}
use Rattle.am_slots.specs.declared.slot.Slot.{Slot}
use Rattle.am_slots.specs.declared.slot.Slot.TheVariants as slot
use Rattle.am_server.specs.Replied.{GotAll}
use Rattle.am_server.specs.Sound.{EndsWell}
use Rattle.am_server.specs.Served.{served_from}
use Rattle.am_server.specs.Putting.{IsLeft}
use Rattle.am_server.specs.Texts.{has_failed, served_text}
use Rattle.am_server.specs.declared.served.Served.{Served}
use Rattle.am_server.specs.declared.writing.ServeEnd.{ServeEnd}
use Rattle.am_server.specs.declared.writing.ServeEnd.TheVariants as end

-- how serving ends after a script that was done, by whether memory ran out and no hang-up tells it, and whether the
-- output has failed
abbrev pub end_done : Bool → Bool → ServeEnd
end_done untold failed = if untold then end.NoMemory else (if failed then end.WriteFault else end.Done)

-- the side that reads ended the connection, with another cause than want of memory
abbrev pub ended_otherwise : Option Ending → Bool
ended_otherwise None = false
ended_otherwise (Some ending.End) = true
ended_otherwise (Some ending.Torn) = true
ended_otherwise (Some ending.ReadFault) = true
ended_otherwise (Some (ending.Broken what)) = true
ended_otherwise (Some ending.Spent) = true
ended_otherwise (Some ending.Gone) = true
ended_otherwise (Some ending.NoMemory) = false

module _ {G L S K : Type 0} where
  -- Memory ran out for the slot, and no hang-up tells it: before its connection was dialled, or for its last replies,
  -- behind a hang-up with another cause.
  abbrev pub wants_untold : Slot G L S K → Bool
  wants_untold slot.Unbound = false
  wants_untold (slot.Bound gate) = true
  wants_untold (slot.Unlinked gate) = false
  wants_untold (slot.Unhalved gate link) = false
  wants_untold (slot.Undialled x refused) = true
  wants_untold (slot.Served x read write.Ended) = false
  wants_untold (slot.Served x read write.Gone) = false
  wants_untold (slot.Served x read write.NoMemory) = ended_otherwise read

  -- How serving ends: a refused line goes before a slot that has failed, that before want of memory, and that before a
  -- failed output.
  abbrev pub end_at : List (Slot G L S K) → ScriptEnd → Bool → ServeEnd
  end_at slots (script.Refused line why) failed = end.Script
  end_at slots script.NoMemory failed = if list_any has_failed slots then end.HostFault else end.NoMemory
  end_at slots script.Done failed = if list_any has_failed slots then end.HostFault else end_done
      (list_any wants_untold slots) failed

  -- The slots were served, and what came of it was written: whole, but where the output has failed, or memory ran out
  -- for a line.
  abbrev pub Writes : Journal → List (Slot G L S K) → ScriptEnd → Seen → ServeEnd → Type 0
  Writes journal slots done o e =
      ((e ≡ end_at slots done false) × IsWhole o (served_text journal slots done))
      ⊎ ((e ≡ end_at slots done true) × IsCut o (served_text journal slots done))
      ⊎ ((e ≡ end.NoMemory) × IsLeft o journal slots)

-- what an output got, nothing was done, and no slot is told of
pub record IsIdle {G L S K : Type 0} (o : Seen) (journal : Journal) (served : List (Served G L S K)) : Type 0 where
  pub silent : o.now.bytes ≡ o.before.bytes
  pub empty : journal.events ≡ []
  pub none : served ≡ []

-- a script that is too long is refused whole
pub record IsTooLong {G L S K : Type 0} (o : Seen) (journal : Journal) (served : List (Served G L S K))
    (e : ServeEnd) : Type 0 where
  pub empty : journal ≡ journal_in Two []
  pub none : served ≡ []
  pub put : ((e ≡ end.Script) × IsPut o (refused_text 0 (codes "input")))
      ⊎ ((e ≡ end.NoMemory) × (o.now.bytes ≡ o.before.bytes))

-- all was done, and there was memory for all that no hang-up tells of
abbrev pub AllDone : ServeEnd → Type 0
AllDone end.Done = Unit {0}
AllDone end.Script = ⊥
AllDone end.ReadFault = ⊥
AllDone end.HostFault = ⊥
AllDone end.NoMemory = ⊥
AllDone end.WriteFault = Unit {0}

-- A script was served: its slots, the script's end, and one journal that has just their entries. Where all was done,
-- each sink that has not failed got all replies. A connection with sound objects ends well.
pub record Serves {G L S K : Type 0} (m : Outside G L S K) (path : List ℕ) (clients : ℕ) (lines : List ℕ) (h : HostSeen)
    (o : Seen) (journal : Journal) (served : List (Served G L S K)) (e : ServeEnd) : Type 0 where
  pub slots : List (Slot G L S K)
  pub done : ScriptEnd
  pub count : length slots ≡ clients
  pub format : journal.format ≡ Two
  pub played : AreEnabled journal
  pub in_range : AllByRecursion IsInRange journal.events
  pub run : IsRun m (enabled_in journal.format) (output_in journal.format) (answers_in journal.format) clients lines
      journal.events slots done
  pub tells : EachTells m path 0 slots
  pub risen : HasRisenBy (unbound slots) h.before.faults h.now.faults
  pub given : HasGiven clients (unbound slots) h.before.given h.now.given
  pub told : served ≡ served_from journal.events 0 slots
  pub writes : Writes journal slots done o e
  pub replied : AllDone e → AllByRecursion (GotAll m journal) served
  pub sound : AllByRecursion (EndsWell m journal) served

-- what came of a script of lawful length: it was served, or there was no memory to begin
abbrev pub ServesLines : {G L S K : Type 0} → Outside G L S K → List ℕ → ℕ → List ℕ → HostSeen → Seen → Journal
    → List (Served G L S K) → ServeEnd → Type 0
ServesLines m path clients lines h o journal served e =
    Serves m path clients lines h o journal served e ⊎ ((e ≡ end.NoMemory) × IsIdle o journal served)

-- How serving ends: the input could not be read, or was too long, or there was no memory for it, or its lines were
-- served.
abbrev pub SaysServe : {G L S K : Type 0} → Outside G L S K → List ℕ → ℕ → Given → Seen → Journal
    → List (Served G L S K) → ServeEnd → Type 0
SaysServe m path clients i o journal served e =
    ((e ≡ end.ReadFault) × HasRisen i.input.before.faults i.input.now.faults × IsIdle o journal served
    × (journal.format ≡ Two))
    ⊎ (IfSome i.input.before.bytes (λ bytes. input_limit < length bytes) × IsTooLong o journal served e)
    ⊎ ((e ≡ end.NoMemory) × IsIdle o journal served)
    ⊎ ((lines : List ℕ) × AreTold i.input.before.bytes lines × (length lines ≤ input_limit)
    × Serves m path clients lines i.host o journal served e)
