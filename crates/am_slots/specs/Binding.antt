-- Slots whose gates were tried.
use Rattle.std.specs.Prelude.{◌≡◌, ℕ, ◌+◌, List, [], ◌∷◌, Option}
use Rattle.am_base.specs.Outside.{GateTold, one_more}
use Rattle.am_slots.specs.Slots.{IsWaiting, HasName}
use Rattle.am_slots.specs.declared.slot.Slot.{Slot}
use Rattle.am_slots.specs.declared.slot.Slot.TheVariants as slot

module _ {G L S K : Type 0} where
  -- so it is with each slot
  abbrev pub AreWaiting : (G → GateTold) → List (Slot G L S K) → Type 0
  AreWaiting told [] = Unit {0}
  AreWaiting told (s ∷ slots) = IsWaiting told s × AreWaiting told slots

  -- from this slot on
  abbrev pub HaveNames : (G → GateTold) → List ℕ → ℕ → List (Slot G L S K) → Type 0
  HaveNames told path conn [] = Unit {0}
  HaveNames told path conn (s ∷ slots) = HasName told path conn s × HaveNames told path (conn + 1) slots

  -- a host gave one gate more where a slot has one, and none where it has none
  abbrev pub IsGiven : Slot G L S K → ℕ → ℕ → Type 0
  IsGiven slot.Unbound before now = now ≡ before
  IsGiven (slot.Bound gate) before now = now ≡ one_more before
  IsGiven (slot.Unlinked gate) before now = now ≡ one_more before
  IsGiven (slot.Unhalved gate link) before now = now ≡ one_more before
  IsGiven (slot.Undialled x refused) before now = now ≡ one_more before
  IsGiven (slot.Served x read wrote) before now = now ≡ one_more before
