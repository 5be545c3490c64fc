-- Slots, what their objects tell, and what a journal has of them.
use Rattle.std.specs.Prelude.{◌≡◌, ◌⊎◌, ℕ, ◌+◌, ◌^◌, ◌≤◌, true, false, List, [], ◌∷◌, ◌++◌, Option, Some, None}
use Rattle.std.specs.Prelude.{filter}
use Rattle.am_base.specs.Outside.{BytesTold, GateTold, LinkTold, AreTold, HasRisen, IsNamed}
use Rattle.am_journal.specs.declared.ending.Ending.{Ending}
use Rattle.am_journal.specs.declared.ending.Ending.TheVariants as ending
use Rattle.am_journal.specs.declared.event.Event.{Event}
use Rattle.am_journal.specs.declared.event.Event.TheVariants.{Dial}
use Rattle.am_journal.specs.declared.event.Refused.TheVariants as why
use Rattle.am_counter.specs.Played.{is_dial_of}
use Rattle.am_serve.specs.Gained.{Rule, Answers}
use Rattle.am_serve.specs.Reading.{messages_of, GivesOf}
use Rattle.am_serve.specs.Writing.{Gets}
use Rattle.am_serve.specs.declared.writing.WriteEnd.{WriteEnd}
use Rattle.am_serve.specs.declared.writing.WriteEnd.TheVariants as end
use Rattle.am_counter.specs.Sent.{sent}
use Rattle.am_slots.specs.Connection.{IsSilent, IsDrained, endings_of}
use Rattle.am_slots.specs.Sides.{WasRefused, Serves}
use Rattle.am_slots.specs.declared.slot.Objects.{Objects}
use Rattle.am_slots.specs.declared.slot.Slot.{Slot}
use Rattle.am_slots.specs.declared.slot.Slot.TheVariants as slot

-- what gates, links, sources and sinks tell
pub record Outside (G L S K : Type 0) : Type 0 where
  pub gate : G → GateTold
  pub link : L → LinkTold
  pub reader : S → BytesTold
  pub writer : K → BytesTold

-- a cause of a connection's end that its sides answered: the side that reads, or else the one that writes
abbrev pub IsCause : Option Ending → WriteEnd → Ending → Type 0
IsCause (Some why) wrote cause = cause ≡ why
IsCause None end.Ended cause = ⊥
IsCause None end.Gone cause = cause ≡ ending.Gone
IsCause None end.NoMemory cause = cause ≡ ending.NoMemory

-- what the objects outside tell
abbrev pub outside : {G L S K : Type 0} → (G → GateTold) → (L → LinkTold) → (S → BytesTold) → (K → BytesTold)
    → Outside G L S K
outside gate link reader writer = record { gate = gate; link = link; reader = reader; writer = writer }

-- A connection that was served: it was dialled once and has ended once, its messages are those of its source, which was
-- read on only while there was room for replies, and its sink got what was sent to it. Where writing ended with it,
-- nothing was left unsent.
pub record IsServed (enabled : Rule) (unsent : List Event → ℕ → List ℕ) (answer : Answers) (journal : List Event)
    (conn : ℕ) (first now : Option (List ℕ)) (read : Option Ending) (wrote : WriteEnd) (held : Option (List ℕ)) : Type 0
  where
    pub dialled : filter (is_dial_of conn) journal ≡ Dial conn ∷ []
    pub cause : Ending
    pub ended : endings_of journal conn ≡ cause ∷ []
    pub caused : IsCause read wrote cause
    pub gives : GivesOf enabled answer conn journal (messages_of journal conn) first now read
    pub empty : Option (List ℕ)
    pub begins_empty : AreTold empty []
    pub gets : Gets wrote empty (sent unsent journal conn) held
    pub drained : wrote ≡ end.Ended → IsDrained unsent journal conn

-- ---- slots by themselves

module _ {G L S K : Type 0} where
  -- the slot's gate was tried, and no connection was asked of it
  abbrev pub IsWaiting : (G → GateTold) → Slot G L S K → Type 0
  IsWaiting told slot.Unbound = Unit {0}
  IsWaiting told (slot.Bound gate) = ((told gate).faults ≡ 0) × ((told gate).given ≡ 0)
  IsWaiting told (slot.Unlinked gate) = ⊥
  IsWaiting told (slot.Unhalved gate link) = ⊥
  IsWaiting told (slot.Undialled x refused) = ⊥
  IsWaiting told (slot.Served x read wrote) = ⊥

  -- its gate is of this path and of the slot's number, where it tells a name
  abbrev pub HasName : (G → GateTold) → List ℕ → ℕ → Slot G L S K → Type 0
  HasName told path conn slot.Unbound = Unit {0}
  HasName told path conn (slot.Bound gate) = IsNamed (told gate).name path conn
  HasName told path conn (slot.Unlinked gate) = IsNamed (told gate).name path conn
  HasName told path conn (slot.Unhalved gate link) = IsNamed (told gate).name path conn
  HasName told path conn (slot.Undialled x refused) = IsNamed (told x.gate).name path conn
  HasName told path conn (slot.Served x read wrote) = IsNamed (told x.gate).name path conn

  -- A connection was taken whole, its gate and its link having been asked once, and is closed: both its halves were
  -- ended.
  pub record IsClosed (o : Outside G L S K) (x : Objects G L S K) : Type 0 where
    pub given : (o.gate x.gate).given ≡ 1
    pub halved : (o.link x.link).is_halved ≡ true
    pub reader : (o.reader x.reader).is_ended ≡ true
    pub writer : (o.writer x.writer).is_ended ≡ true

  -- What its objects tell once it was served: one that failed has counted it, and gave nothing; a source that has ended
  -- has nothing left; none waits.
  abbrev pub Tells : Outside G L S K → Slot G L S K → Type 0
  Tells o slot.Unbound = Unit {0}
  Tells o (slot.Bound gate) = ⊥
  Tells o (slot.Unlinked gate) = HasRisen 0 (o.gate gate).faults × ((o.gate gate).given ≡ 0)
  Tells o (slot.Unhalved gate link) = HasRisen 0 (o.link link).faults × ((o.gate gate).given ≡ 1)
      × ((o.link link).is_halved ≡ false)
  Tells o (slot.Undialled x refused) = IsClosed o x
  Tells o (slot.Served x read wrote) =
      (read ≡ Some ending.ReadFault → HasRisen 0 (o.reader x.reader).faults)
      × (read ≡ Some ending.End → AreTold (o.reader x.reader).bytes [])
      × (read ≡ Some ending.Torn → AreTold (o.reader x.reader).bytes [])
      × (wrote ≡ end.Gone → HasRisen 0 (o.writer x.writer).faults)
      × IsClosed o x

  -- the slots whose gates could not be bound
  abbrev pub unbound : List (Slot G L S K) → ℕ
  unbound [] = 0
  unbound (slot.Unbound ∷ slots) = 1 + unbound slots
  unbound (slot.Bound gate ∷ slots) = unbound slots
  unbound (slot.Unlinked gate ∷ slots) = unbound slots
  unbound (slot.Unhalved gate link ∷ slots) = unbound slots
  unbound (slot.Undialled x refused ∷ slots) = unbound slots
  unbound (slot.Served x read wrote ∷ slots) = unbound slots

-- a count of faults has risen by so many at least, or stands at its type's end
abbrev pub HasRisenBy : ℕ → ℕ → ℕ → Type 0
HasRisenBy n before now = (before + n ≤ now) ⊎ (2 ^ 64 ≤ now + 1)

-- a count of what was given has risen by as many as there are but those that are missing, or stands at its type's end
abbrev pub HasGiven : ℕ → ℕ → ℕ → ℕ → Type 0
HasGiven all missing before now = (now + missing ≡ before + all) ⊎ (2 ^ 64 ≤ now + 1)

-- ---- slots and a journal

module _ {G L S K : Type 0} (o : Outside G L S K) (enabled : Rule) (unsent : List Event → ℕ → List ℕ) (answer : Answers)
  where
    -- what the seat of a slot has, and those that ended in it, as far as a journal was seen
    abbrev pub Has : ℕ → List Event → Slot G L S K → List (List (ℕ × Event)) → Type 0
    Has conn seen slot.Unbound lists = lists ≡ [] ∷ []
    Has conn seen (slot.Bound gate) lists = lists ≡ [] ∷ []
    Has conn seen (slot.Unlinked gate) lists = lists ≡ [] ∷ []
    Has conn seen (slot.Unhalved gate link) lists = lists ≡ [] ∷ []
    Has conn seen (slot.Undialled x refused) lists = (lists ≡ [] ∷ []) × WasRefused enabled conn seen refused
    Has conn seen (slot.Served x read wrote) lists = Serves enabled unsent answer conn seen (o.link x.link).begins
        (o.reader x.reader).bytes read wrote (o.writer x.writer).bytes lists

    -- the same of slots one after another, from this connection on
    abbrev pub EachHas : ℕ → List Event → List (Slot G L S K) → List (List (ℕ × Event)) → Type 0
    EachHas conn seen [] lists = lists ≡ []
    EachHas conn seen (s ∷ slots) lists =
        (own : List (List (ℕ × Event))) × (others : List (List (ℕ × Event)))
        × (lists ≡ own ++ others) × Has conn seen s own × EachHas (conn + 1) seen slots others

    -- What a journal has of a slot. One was not dialled for want of memory alone.
    abbrev pub IsOf : List Event → ℕ → Slot G L S K → Type 0
    IsOf journal conn slot.Unbound = IsSilent journal conn
    IsOf journal conn (slot.Bound gate) = IsSilent journal conn
    IsOf journal conn (slot.Unlinked gate) = IsSilent journal conn
    IsOf journal conn (slot.Unhalved gate link) = IsSilent journal conn
    IsOf journal conn (slot.Undialled x refused) = IsSilent journal conn × (refused ≡ why.NoMemory)
    IsOf journal conn (slot.Served x read wrote) = IsServed enabled unsent answer journal conn (o.link x.link).begins
        (o.reader x.reader).bytes read wrote (o.writer x.writer).bytes
