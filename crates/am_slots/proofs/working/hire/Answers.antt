use Rattle.std.proofs.Common.{◌<◌, length, length-append, [], ◌∷◌, arith, ◌∙◌}
use Rattle.std.proofs.lemmas.Iterator.Consumers.{YieldsList-turn, YieldsList-end}
use Rattle.am_slots.proofs.Hired.{items_come, all_came, mine_kept, ended_kept, seen_kept, parts_next, slots_next}
use Rattle.am_slots.proofs.Hired.{ready_next, ready_whole}
use Rattle.am_slots.proofs.working.hire.Goals as goal

pub split-seat-requires-clause-parts : goal.split-seat-requires-clause-parts
split-seat-requires-clause-parts g c =
    let given = c.into_iter-slot-iterator.ensures.into_iter_gives in
    let items = c.into_vec-slot-items in
    let t : length c.loop-slot.yielded < length c.args.slots = (YieldsList-turn
    (items_come c.args.slots items.result.items items.result.len given.0 given.1 items.result.ok.0 items.ensures)
    c.loop-slot.yielded c.loop-slot.slot-iterator c.loop-slot.yielded_by c.next.result c.next.new.self
    c.in-Some.slot c.in-Some.is c.next.ensures.steps).0 in
    (omega arith, omega (arith, t, c.loop-slot.invariant.parts))

pub push_reserved-requires : goal.push_reserved-requires
push_reserved-requires g c =
    let given = c.into_iter-slot-iterator.ensures.into_iter_gives in
    let items = c.into_vec-slot-items in
    let t : length c.loop-slot.yielded < length c.args.slots = (YieldsList-turn
    (items_come c.args.slots items.result.items items.result.len given.0 given.1 items.result.ok.0 items.ensures)
    c.loop-slot.yielded c.loop-slot.slot-iterator c.loop-slot.yielded_by c.next.result c.next.new.self
    c.in-Some.slot c.in-Some.is c.next.ensures.steps).0 in
    omega (arith, t, c.loop-slot.invariant.count, c.loop-slot.invariant.room, c.requires.room.1)

pub loop-slot-preserved : goal.loop-slot-preserved
loop-slot-preserved g c =
    let given = c.into_iter-slot-iterator.ensures.into_iter_gives in
    let items = c.into_vec-slot-items in
    let t : length c.loop-slot.yielded < length c.args.slots = (YieldsList-turn
    (items_come c.args.slots items.result.items items.result.len given.0 given.1 items.result.ok.0 items.ensures)
    c.loop-slot.yielded c.loop-slot.slot-iterator c.loop-slot.yielded_by c.next.result c.next.new.self
    c.in-Some.slot c.in-Some.is c.next.ensures.steps).0 in
    let before = c.loop-slot.invariant in
    let known = c.split-seat.ensures.known in
    record {
      next = tt;
      ends = tt;
      fits = c.split-seat.ensures.fits;
      parts =
          parts_next (g.C.Counter.fits c.args.desk.now) g.C.Counter.known c.loop-slot.yielded c.loop-slot.workers.items
          c.push_reserved.new.self.items c.in-Some.slot c.split-seat.result c.push_reserved.ensures.items
          (g.C.Counter.known c.loop-slot.seat) (g.C.Counter.known c.split-seat.new.seat) (length c.args.slots) t
          before.parts known;
      mine = mine_kept (g.C.Counter.known c.loop-slot.seat) (g.C.Counter.known c.split-seat.new.seat) known before.mine;
      ended = ended_kept (g.C.Counter.known c.loop-slot.seat) (g.C.Counter.known c.split-seat.new.seat) known
          before.ended;
      seen = seen_kept (g.C.Counter.known c.loop-slot.seat) (g.C.Counter.known c.split-seat.new.seat)
          (g.C.Counter.known c.args.seat.now).seen known before.seen;
      slots = slots_next (g.C.Counter.fits c.args.desk.now) g.C.Counter.known c.loop-slot.yielded
          c.loop-slot.workers.items c.push_reserved.new.self.items c.in-Some.slot c.split-seat.result
          c.push_reserved.ensures.items before.slots;
      ready =
          ready_next (g.C.Counter.fits c.args.desk.now) g.C.Counter.known c.loop-slot.yielded c.loop-slot.workers.items
          c.push_reserved.new.self.items c.in-Some.slot c.split-seat.result c.push_reserved.ensures.items
          (g.C.Counter.known c.loop-slot.seat) before.ready c.split-seat.ensures.new_fits c.split-seat.ensures.new;
      room = cc;
      count = omega (
        arith,
        before.count,
        c.push_reserved.ensures.len,
        length-append c.loop-slot.yielded (c.in-Some.slot ∷ []),
      );
    }

pub returns-clause-fresh : goal.returns-clause-fresh
returns-clause-fresh g c =
    let given = c.into_iter-slot-iterator.ensures.into_iter_gives in
    let items = c.into_vec-slot-items in
    let t = YieldsList-end (items_come c.args.slots items.result.items items.result.len given.0 given.1
    items.result.ok.0 items.ensures) c.loop-slot.yielded c.loop-slot.slot-iterator c.loop-slot.yielded_by
    c.next.result c.next.new.self c.in-None.is c.next.ensures.steps in
    record {
      parts = omega (arith, t.1, c.loop-slot.invariant.parts);
      mine = c.loop-slot.invariant.mine;
      ended = c.loop-slot.invariant.ended;
    }

pub returns-clause-slots : goal.returns-clause-slots
returns-clause-slots g c =
    let given = c.into_iter-slot-iterator.ensures.into_iter_gives in
    let items = c.into_vec-slot-items in
    let t = YieldsList-end (items_come c.args.slots items.result.items items.result.len given.0 given.1
    items.result.ok.0 items.ensures) c.loop-slot.yielded c.loop-slot.slot-iterator c.loop-slot.yielded_by
    c.next.result c.next.new.self c.in-None.is c.next.ensures.steps in
    c.loop-slot.invariant.slots ∙ (all_came c.loop-slot.yielded c.args.slots t.0)

pub returns-clause-ready : goal.returns-clause-ready
returns-clause-ready g c =
    let given = c.into_iter-slot-iterator.ensures.into_iter_gives in
    let items = c.into_vec-slot-items in
    let t = YieldsList-end (items_come c.args.slots items.result.items items.result.len given.0 given.1
    items.result.ok.0 items.ensures) c.loop-slot.yielded c.loop-slot.slot-iterator c.loop-slot.yielded_by
    c.next.result c.next.new.self c.in-None.is c.next.ensures.steps in
    ready_whole (g.C.Counter.fits c.args.desk.now) g.C.Counter.known c.args.slots c.loop-slot.yielded
    c.loop-slot.workers.items (all_came c.loop-slot.yielded c.args.slots t.0) c.loop-slot.invariant.ready
