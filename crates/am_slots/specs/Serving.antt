-- What serving the slots of a host, and a script beside them, comes to.
use Rattle.std.specs.Prelude.{◌≡◌, ℕ, ◌+◌, ◌≤◌, List, [], ◌∷◌, filter}
use Rattle.am_journal.specs.declared.event.Event.{Event}
use Rattle.am_counter.specs.Known.{Known}
use Rattle.am_counter.specs.Played.{IsPrefix}
use Rattle.am_serve.specs.Gained.{Rule, Answers, plain}
use Rattle.am_serve.specs.Script.{EndsScript, is_scripted}
use Rattle.am_serve.specs.declared.scripting.ScriptEnd.{ScriptEnd}
use Rattle.am_slots.specs.Connection.{IsSilent}
use Rattle.am_slots.specs.Slots.{Outside, IsOf, EachHas, HasName, Tells}
use Rattle.am_slots.specs.declared.slot.Slot.{Slot}

module _ {G L S K : Type 0} (o : Outside G L S K) where
  -- slots one after another, from this connection on: their names and what they tell
  abbrev pub EachTells : List ℕ → ℕ → List (Slot G L S K) → Type 0
  EachTells path conn [] = Unit {0}
  EachTells path conn (s ∷ slots) = HasName o.gate path conn s × Tells o s × EachTells path (conn + 1) slots

  -- and what a journal has of them
  abbrev pub EachIs : Rule → (List Event → ℕ → List ℕ) → Answers → List Event → ℕ → List (Slot G L S K) → Type 0
  EachIs enabled unsent answer journal conn [] = Unit {0}
  EachIs enabled unsent answer journal conn (s ∷ slots) = IsOf o enabled unsent answer journal conn s
      × EachIs enabled unsent answer journal (conn + 1) slots

-- what a script's seat knows at first
abbrev pub unseen : Known
unseen = record { parts = 1; seen = []; mine = []; ended = [] }

-- All slots were served and the script was done: the seat has its entries, and those of the slots' seats ended in it.
pub record ServesAll {G L S K : Type 0} (o : Outside G L S K) (enabled : Rule) (unsent : List Event → ℕ → List ℕ)
    (answer : Answers) (clients : ℕ) (script : List ℕ) (slots : List (Slot G L S K)) (end : ScriptEnd)
    (w : Known) : Type 0 where
  pub each : EachHas o enabled unsent answer 0 w.seen slots w.ended
  pub known : Known
  pub seen : IsPrefix known.seen w.seen
  pub mine : w.mine ≡ known.mine
  pub did : EndsScript enabled answer clients unseen script end known

-- A script was done so, and the journal's events of windows are those of its lines.
pub record DidScript (enabled : Rule) (answer : Answers) (clients : ℕ) (script : List ℕ) (journal : List Event)
    (end : ScriptEnd) : Type 0 where
  pub known : Known
  pub seen : IsPrefix known.seen journal
  pub did : EndsScript enabled answer clients unseen script end known
  pub events : filter is_scripted journal ≡ plain known.mine

-- A journal of slots that were served and a script that was done, and of nothing else.
pub record IsRun {G L S K : Type 0} (o : Outside G L S K) (enabled : Rule) (unsent : List Event → ℕ → List ℕ)
    (answer : Answers) (clients : ℕ) (script : List ℕ) (journal : List Event) (slots : List (Slot G L S K))
    (end : ScriptEnd) : Type 0 where
  pub each : EachIs o enabled unsent answer journal 0 slots
  pub others : (conn : ℕ) → clients ≤ conn → IsSilent journal conn
  pub did : DidScript enabled answer clients script journal end
