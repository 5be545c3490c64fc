use Rattle.std.proofs.Common.{◌≡◌, ℕ, List, arith, subst, sym}
use Rattle.am_slots.specs.Slots.{HasGiven, HasRisenBy, unbound}
use Rattle.am_slots.specs.declared.slot.Slot.{Slot}
use Rattle.am_slots.proofs.Bound.{count_next, waiting_next, named_next, risen_next, given_next}
use Rattle.am_slots.proofs.binding.bind_all.Goals as goal

pub loop-slot-preserved : goal.loop-slot-preserved
loop-slot-preserved g c =
    let slots = c.loop-slot.slots.items in
    let now = c.push_reserved.new.self.items in
    let put = c.push_reserved.ensures.items in
    let s = c.bind_slot.result in
    let before = c.loop-slot.invariant in
    record {
      count = omega (arith, count_next slots now s put, before.count);
      len = omega (arith, c.push_reserved.ensures.len, before.len);
      room = cc;
      waiting = waiting_next slots now s put g.H.G.Gate.told before.waiting c.bind_slot.ensures.waits;
      named = named_next slots now s put g.H.G.Gate.told c.args.path.now c.loop-slot.slot before.count before.named
          c.bind_slot.ensures.named;
      risen = risen_next slots now s put _ _ _ before.risen c.bind_slot.ensures.risen c.bind_slot.ensures.later;
      later = omega (arith, before.later, c.bind_slot.ensures.later);
      given = given_next slots now s put c.loop-slot.slot _ _ _ before.given c.bind_slot.ensures.given;
    }

pub returns-clause-risen : goal.returns-clause-risen
returns-clause-risen g c =
    subst (λ (l : List (Slot g.row.H-G.Denot g.row.H-G-L.Denot g.row.H-G-L-R.Denot g.row.H-G-L-W.Denot)).
    HasRisenBy (unbound l) (g.H.Host.told c.args.host.now).faults (g.H.Host.told c.loop-slot.host).faults)
    (sym c.from_vec.ensures) c.loop-slot.invariant.risen

pub returns-clause-given : goal.returns-clause-given
returns-clause-given g c =
    let all : c.loop-slot.slot ≡ c.args.clients = omega (arith, c.loop-slot-test.false, c.loop-slot.auto.slot-end) in
    subst (λ (l : List (Slot g.row.H-G.Denot g.row.H-G-L.Denot g.row.H-G-L-R.Denot g.row.H-G-L-W.Denot)).
    HasGiven c.args.clients (unbound l) (g.H.Host.told c.args.host.now).given
    (g.H.Host.told c.loop-slot.host).given)
    (sym c.from_vec.ensures)
    (subst (λ (n : ℕ). HasGiven n (unbound c.loop-slot.slots.items) (g.H.Host.told c.args.host.now).given
    (g.H.Host.told c.loop-slot.host).given) all c.loop-slot.invariant.given)
