-- What an output got of a text.
use Rattle.std.specs.Prelude.{◌≡◌, ◌⊎◌, ℕ, ◌≤◌, Bool, true, false, List, ◌++◌}
use Rattle.am_base.specs.Seen.{Seen}
use Rattle.am_base.specs.Written.{IsWhole, IsCut}
use Rattle.am_journal.specs.declared.event.Event.{Event}
use Rattle.am_journal.specs.declared.event.Journal.{Journal}
use Rattle.am_journal.specs.Journal.{longer}
use Rattle.core_laws.specs.Fronts as fronts
use Rattle.am_replay.specs.Scripts.{none_read, replied}

-- the text was put, or a front of it where the count of faults has risen; what was put says which
abbrev pub Holds : Bool → Seen → List ℕ → Type 0
Holds false o text = IsWhole o text
Holds true o text = IsCut o text

-- a text was put, whole or cut, and the count of faults never fell
pub record Wrote (failed : Bool) (o : Seen) (text : List ℕ) : Type 0 where
  pub holds : Holds failed o text
  pub later : o.before.faults ≤ o.now.faults

-- the bytes, and perhaps more
abbrev pub IsFront : {A : Type 0} → List A → List A → Type 0
IsFront {A} front whole = (rest : List A) × (front ++ rest ≡ whole)

-- the journal of the first of the events, or, where perhaps no line was read, the empty one
abbrev pub IsPart : Journal → Journal → Type 0
IsPart journal whole = (journal ≡ none_read) ⊎ fronts.IsFront journal whole

-- the lines of all replies of the events, or of all but the last event
abbrev pub IsCaughtUp : Journal → List ℕ → Type 0
IsCaughtUp journal text = (text ≡ replied journal)
    ⊎ ((before : Journal) × (e : Event) × (journal ≡ longer before e) × (text ≡ replied before))
