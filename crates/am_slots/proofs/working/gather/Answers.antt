use Rattle.std.proofs.Common.{length, length-append, [], ◌∷◌, refl, arith, ◌∙◌}
use Rattle.std.proofs.lemmas.Iterator.Consumers.{YieldsList-turn, YieldsList-end}
use Rattle.am_slots.proofs.Hired.{items_come, all_came, held_at, takes_more, takes_whole, slots_more, slots_whole}
use Rattle.am_slots.proofs.working.gather.Goals as goal

pub take_in-requires : goal.take_in-requires
take_in-requires g c =
    let given = c.into_iter-worker-iterator.ensures.into_iter_gives in
    let t = YieldsList-turn (items_come c.args.workers.items c.args.workers.items c.args.workers.len given.0 given.1
    c.args.workers.ok.0 refl) c.loop-worker.yielded c.loop-worker.worker-iterator c.loop-worker.yielded_by
    c.next.result c.next.new.self c.in-Some.worker c.in-Some.is c.next.ensures.steps in
    record {
      fits = (
        c.loop-worker.invariant.fits,
        held_at c.args.workers.items
            (λ w. g.C.Counter.fits c.args.desk.now w.seat) (length c.loop-worker.yielded) c.in-Some.worker c.requires.seats
            t.0 t.1,
      );
    }

pub loop-worker-preserved : goal.loop-worker-preserved
loop-worker-preserved g c =
    let before = c.loop-worker.invariant in
    record {
      next = tt;
      ends = tt;
      fits = c.take_in.ensures.fits;
      known =
          takes_more g.C.Counter.known (g.C.Counter.known c.args.seat.now) (g.C.Counter.known c.loop-worker.seat)
          (g.C.Counter.known c.take_in.new.seat) c.loop-worker.yielded c.in-Some.worker
          before.known c.take_in.ensures.known;
      slots = slots_more c.loop-worker.slots.items c.push_reserved.new.self.items c.loop-worker.yielded c.in-Some.worker
          c.push_reserved.ensures.items before.slots;
      room = cc;
      count = omega (
        arith,
        before.count,
        c.push_reserved.ensures.len,
        length-append c.loop-worker.yielded (c.in-Some.worker ∷ []),
      );
    }

pub returns-clause-known : goal.returns-clause-known
returns-clause-known g c =
    let given = c.into_iter-worker-iterator.ensures.into_iter_gives in
    let t = YieldsList-end (items_come c.args.workers.items c.args.workers.items c.args.workers.len given.0 given.1
    c.args.workers.ok.0 refl) c.loop-worker.yielded c.loop-worker.worker-iterator c.loop-worker.yielded_by
    c.next.result c.next.new.self c.in-None.is c.next.ensures.steps in
    takes_whole g.C.Counter.known (g.C.Counter.known c.args.seat.now) (g.C.Counter.known c.loop-worker.seat)
    c.args.workers.items c.loop-worker.yielded (all_came c.loop-worker.yielded c.args.workers.items t.0)
    c.loop-worker.invariant.known

pub returns-clause-slots : goal.returns-clause-slots
returns-clause-slots g c =
    let given = c.into_iter-worker-iterator.ensures.into_iter_gives in
    let t = YieldsList-end (items_come c.args.workers.items c.args.workers.items c.args.workers.len given.0 given.1
    c.args.workers.ok.0 refl) c.loop-worker.yielded c.loop-worker.worker-iterator c.loop-worker.yielded_by
    c.next.result c.next.new.self c.in-None.is c.next.ensures.steps in
    c.from_vec.ensures ∙ slots_whole c.loop-worker.slots.items c.args.workers.items c.loop-worker.yielded
    (all_came c.loop-worker.yielded c.args.workers.items t.0) c.loop-worker.invariant.slots
