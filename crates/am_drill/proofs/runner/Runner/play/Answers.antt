use Rattle.std.proofs.Common.{◌∙◌}
use Rattle.std.proofs.lemmas.Iterator.Consumers.{YieldsList-turn, YieldsList-so_far}
use Rattle.am_drill.proofs.Playing.{items_come, turn_next, stopped_at, on_err}
use Rattle.am_drill.proofs.runner.Runner.play.Goals as goal

pub step-requires-clause-next : goal.step-requires-clause-next
step-requires-clause-next c =
    let given = c.into_iter-event-iterator.ensures.into_iter_gives in
    let items = c.into_vec-event-items in
    let come = items_come c.args.events items.result.items items.result.len given.0 given.1 items.result.ok.0
    items.ensures in
    turn_next c.args.self.now.core.journal c.args.events c.loop-event.yielded c.loop-event.self.core.journal
    c.in-Some.event c.requires.next
    (YieldsList-so_far come c.loop-event.yielded c.loop-event.event-iterator c.loop-event.yielded_by)
    c.loop-event.invariant.done
    (YieldsList-turn come c.loop-event.yielded c.loop-event.event-iterator c.loop-event.yielded_by c.next.result
    c.next.new.self c.in-Some.event c.in-Some.is c.next.ensures.steps)

pub returns-in_err-step-clause-err : goal.returns-in_err-step-clause-err
returns-in_err-step-clause-err c =
    let given = c.into_iter-event-iterator.ensures.into_iter_gives in
    let items = c.into_vec-event-items in
    let come = items_come c.args.events items.result.items items.result.len given.0 given.1 items.result.ok.0
    items.ensures in
    on_err c.from_residual.result _
    (stopped_at c.args.self.now.core.journal c.args.events c.loop-event.yielded c.step.new.self.core.journal
    (YieldsList-so_far come c.loop-event.yielded c.loop-event.event-iterator c.loop-event.yielded_by)
    (c.in_err-step.ensures.err ∙ c.loop-event.invariant.done))
