use Rattle.std.proofs.Common.{arith, sym, ap, ◌∙◌}
use Rattle.std.proofs.lemmas.List.{get_or_read}
use Rattle.wait_queue.specs.Held.{no_waiting}
use Rattle.wait_queue.specs.Waiting.{is_ready}
use Rattle.wait_queue.proofs.ReadLemmas.{position-at, position-past}
use Rattle.wait_queue.proofs.reads.place_of_ready.Goals as goal

pub returns-then-can_be_answered-clause-place : goal.returns-then-can_be_answered-clause-place
returns-then-can_be_answered-clause-place g c =
    let read = get_or_read c.args.all.now c.loop-i.i c.get.result (omega arith) c.get.ensures no_waiting in
    position-at (is_ready (g.A.Answers.answers c.args.by.now)) c.args.all.now c.loop-i.i no_waiting (omega arith)
    c.loop-i.invariant
    (sym (ap (is_ready (g.A.Answers.answers c.args.by.now)) read) ∙ sym c.can_be_answered.ensures
    ∙ c.if-can_be_answered.true)

pub returns-clause-place : goal.returns-clause-place
returns-clause-place g c =
    position-past (is_ready (g.A.Answers.answers c.args.by.now)) c.args.all.now c.loop-i.i no_waiting (omega arith)
    (omega arith) c.loop-i.invariant
