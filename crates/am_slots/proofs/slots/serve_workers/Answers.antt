use Rattle.std.proofs.Common.{Bool, ◌<◌, get_or, arith}
use mir.Syntax.{of_param}
use denote.Exit.{if_kept, unseen}
use denote.Param.Send.{Quiet, Quiet-if}
use Rattle.am_slots.specs.Slots.{outside}
use Rattle.am_slots.proofs.Each.{ready_at, works_at}
use Rattle.am_slots.proofs.slots.serve_workers.Goals as goal

nothing_left : {D : Type 0} (b : Bool) → Quiet (if_kept b (unseen {D = D}) (unseen {D = D}))
nothing_left b = Quiet-if b unseen unseen (λ x w. tt) (λ x w. tt)

pub serve_beside-requires-clause-accepts : goal.serve_beside-requires-clause-accepts
serve_beside-requires-clause-accepts g c κs within = λ i p lt e.
    let below : i < 64 = omega (arith, lt, c.requires.few) in
    let b = c.type_bounds in (
      (
        below,
        ready_at (g.C.Counter.fits c.args.script.now.desk.now) g.C.Counter.known g.G.Gate.told c.args.workers.now
            i p.now c.requires.ready lt e,
      ),
      (
        record { owned = b.send-T.owned; leaving = λ k. nothing_left (k (of_param 1)) },
        record { owned = b.send-G.owned; leaving = λ k. nothing_left (k (of_param 2)) },
        record { owned = b.send-L.owned; leaving = λ k. nothing_left (k (of_param 3)) },
        record { owned = b.send-S.owned; leaving = λ k. nothing_left (k (of_param 4)) },
        record { owned = b.send-K.owned; leaving = λ k. nothing_left (k (of_param 5)) },
        record { shared = b.sync-C.shared },
        record { shared = b.sync-R.shared },
      ),
    )

pub returns-clause-works : goal.returns-clause-works
returns-clause-works g c = record {
  count = c.serve_beside.ensures.each.count;
  each = λ k d lt.
      let h = (c.serve_beside.ensures.each.each k d lt).1 in
      works_at (g.C.Counter.fits c.args.script.now.desk.now) g.C.Counter.known
      (outside g.G.Gate.told g.L.Link.told g.S.Source.told g.K.Sink.told) g.C.Counter.enabled g.C.Counter.unsent
      g.C.Counter.answer k (get_or c.args.workers.now k d) (get_or c.serve_beside.new.workers k d) h.argument.now
      h.after_call.now h.argument_is h.left h.call;
}
