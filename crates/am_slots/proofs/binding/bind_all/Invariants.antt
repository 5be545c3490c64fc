use Rattle.std.proofs.Common.{◌≡◌, ◌≤◌, length}
use Rattle.std.specs.Prelude.{vec_len, vec_capacity}
use Rattle.am_slots.specs.Binding.{AreWaiting, HaveNames}
use Rattle.am_slots.specs.Slots.{unbound, HasGiven, HasRisenBy}
use Rattle.am_slots.proofs.binding.bind_all.Given as goal

abbrev pub invariant-loop-slot : goal.invariant-loop-slot
invariant-loop-slot g l = record {
  count : length l.slots.items ≡ l.slot;
  len : vec_len l.slots ≡ l.slot;
  room : vec_capacity l.slots ≡ vec_capacity l.fn.slots;
  waiting : AreWaiting g.H.G.Gate.told l.slots.items;
  named : HaveNames g.H.G.Gate.told l.path 0 l.slots.items;
  risen : HasRisenBy (unbound l.slots.items) (g.H.Host.told l.fn.host).faults (g.H.Host.told l.host).faults;
  later : (g.H.Host.told l.fn.host).faults ≤ (g.H.Host.told l.host).faults;
  given : HasGiven l.slot (unbound l.slots.items) (g.H.Host.told l.fn.host).given (g.H.Host.told l.host).given;
}
