-- What serving does to the workers of slots.
use Rattle.std.specs.Prelude.{◌≡◌, ℕ, ◌+◌, ◌<◌, ◌≤◌, true, List, [], ◌∷◌, ◌++◌, Option, Some, slice_index_or, length}
use Rattle.std.specs.Prelude.{map, vec_capacity}
use Rattle.std.specs.List.{flat_map, AllByRecursion}
use denote.Ref.{MutBor}
use denote.Param.Members.{Shared}
use Rattle.std.specs.Fork.{ChangesEach}
use Rattle.turn_lock.specs.Journal.{total}
use Rattle.am_base.specs.Outside.{GateTold, AreTold, HasRisen}
use Rattle.am_base.specs.Seen.{Seen}
use Rattle.am_journal.specs.declared.ending.Ending.{Ending}
use Rattle.am_journal.specs.declared.ending.Ending.TheVariants as ending
use Rattle.am_journal.specs.declared.event.Event.{Event}
use Rattle.am_journal.specs.declared.event.Event.TheVariants.{Dial}
use Rattle.am_counter.specs.Known.{Known, lists_of}
use Rattle.am_counter.specs.Played.{IsPrefix, has_dial, has_hang}
use Rattle.am_serve.specs.Gained.{Rule, Answers, Gains, gained}
use Rattle.am_serve.specs.Reading.{AreRead, GivesOf, spellings}
use Rattle.am_serve.specs.Writing.{AreWritten, Gets, taken_bytes}
use Rattle.am_serve.specs.declared.writing.WriteEnd.{WriteEnd}
use Rattle.am_serve.specs.declared.writing.WriteEnd.TheVariants as end
use Rattle.am_slots.specs.Slots.{Outside, IsWaiting, HasName, Tells, Has, unbound}
use Rattle.am_slots.specs.declared.room.Room.{Room}
use Rattle.am_slots.specs.declared.slot.Slot.{Slot}
use Rattle.am_slots.specs.declared.working.Worker.{Worker}

-- what a side that reads does
pub record DidRead (enabled : Rule) (answer : Answers) (conn : ℕ) (v w : Known) (s : Seen) (read : Option Ending) : Type
    0 where
  pub gains : Gains v (gained v w) w
  pub entries : AreRead conn read v w
  pub gives : GivesOf enabled answer conn w.seen (spellings (gained v w)) s.before.bytes s.now.bytes read
  pub ended : has_hang w.seen conn ≡ true
  pub end : read ≡ Some ending.End → AreTold s.now.bytes []
  pub torn : read ≡ Some ending.Torn → AreTold s.now.bytes []
  pub fault : read ≡ Some ending.ReadFault → HasRisen s.before.faults s.now.faults
  pub closed : s.now.is_ended ≡ true

-- what a side that writes does
pub record DidWrite (unsent : List Event → ℕ → List ℕ) (conn : ℕ) (v w : Known) (s : Seen) (wrote : WriteEnd) : Type 0
  where
    pub gains : Gains v (gained v w) w
    pub entries : AreWritten conn wrote v w
    pub gets : Gets wrote s.before.bytes (taken_bytes unsent w.seen (gained v w)) s.now.bytes
    pub ended : has_hang w.seen conn ≡ true
    pub nothing_unsent : wrote ≡ end.Ended → unsent w.seen conn ≡ []
    pub gone : wrote ≡ end.Gone → HasRisen s.before.faults s.now.faults
    pub closed : s.now.is_ended ≡ true

-- a seat has dialled a connection, and has no other entry
pub record HasDialled (conn : ℕ) (v : Known) : Type 0 where
  pub number : ℕ
  pub mine : v.mine ≡ (number, Dial conn) ∷ []
  pub ended : v.ended ≡ []
  pub dialled : has_dial v.seen conn ≡ true

-- a seat with so many parts and no entry
pub record IsFresh (n : ℕ) (v : Known) : Type 0 where
  pub parts : v.parts ≡ n
  pub mine : v.mine ≡ []
  pub ended : v.ended ≡ []

module _ {T G L S K : Type 0} (Fits : T → Type 0) (known : T → Known) where
  -- a worker whose slot waits
  pub record IsReady (told : G → GateTold) (w : Worker T G L S K) : Type 0 where
    pub fits : Fits w.seat
    pub fresh : IsFresh 2 (known w.seat)
    pub waits : IsWaiting told w.slot

  -- a worker whose slot was served
  pub record Works (o : Outside G L S K) (enabled : Rule) (unsent : List Event → ℕ → List ℕ) (answer : Answers)
      (conn : ℕ) (before after : Worker T G L S K) : Type 0 where
    pub fits : Fits after.seat
    pub parts : (known after.seat).parts ≡ 2
    pub has : Has o enabled unsent answer conn (known after.seat).seen after.slot (lists_of (known after.seat))
    pub tells : Tells o after.slot
    pub named : (path : List ℕ) → HasName o.gate path conn before.slot → HasName o.gate path conn after.slot
    pub bound : unbound (after.slot ∷ []) ≡ unbound (before.slot ∷ [])

  -- the same of each, from connection 0 on
  pub record EachWorks (o : Outside G L S K) (enabled : Rule) (unsent : List Event → ℕ → List ℕ) (answer : Answers)
      (before after : List (Worker T G L S K)) : Type 0 where
    pub count : length after ≡ length before
    pub each : (k : ℕ) (d : Worker T G L S K) → k < length before → Works o enabled unsent answer k
        (slice_index_or before k d) (slice_index_or after k d)

module _ {F W : Type 0} (g : Shared F (ℕ × (MutBor W × Unit {0})) (Unit {0} × (MutBor W × Unit {0}))) (f : F) where
  -- each worker is what a call of f with its place left of it
  pub record ServesEach (before after : List W) : Type 0 where
    pub count : length after ≡ length before
    pub each : ChangesEach g f before after

module _ {T G L S K : Type 0} (known : T → Known) where
  -- a seat took in the seats of workers, one after another
  pub record TakesInEach (v : Known) (workers : List (Worker T G L S K)) (w : Known) : Type 0 where
    pub parts : w.parts ≡ v.parts + total (λ x. (known x.seat).parts) workers
    pub seen : IsPrefix v.seen w.seen
    pub each : AllByRecursion (λ x. IsPrefix (known x.seat).seen w.seen) workers
    pub mine : w.mine ≡ v.mine
    pub ended : w.ended ≡ v.ended ++ flat_map (λ x. lists_of (known x.seat)) workers

-- the slots of workers
abbrev pub slots_of : {T G L S K : Type 0} → List (Worker T G L S K) → List (Slot G L S K)
slots_of workers = map (λ w. w.slot) workers

-- nothing is in it, and it has room for so many slots
pub record HasRoom {T G L S K : Type 0} (clients : ℕ) (room : Room T G L S K) : Type 0 where
  pub workers : (room.workers.items ≡ []) × (clients ≤ vec_capacity room.workers)
  pub slots : (room.slots.items ≡ []) × (clients ≤ vec_capacity room.slots)
