use Rattle.std.proofs.Common.{arith, ap, ◌∙◌}
use Rattle.acme_watch.specs.Jobs.{answered_life}
use Rattle.acme_watch.proofs.JobLemmas.{with_life-past, with_life-at}
use Rattle.acme_watch.proofs.jobs.answer_at.Goals as goal

pub returns-then-number-len : goal.returns-then-number-len
returns-then-number-len c =
    with_life-past (answered_life c.args.answer c.args.good) c.args.number c.args.all.now.items
    (omega (arith, c.if-number-len.true))

pub returns : goal.returns
returns c =
    with_life-at (answered_life c.args.answer c.args.good) c.args.number c.args.all.now.items
    c.index_mut-life.result.now _ (omega (arith, c.if-number-eq0.false)) (omega (arith, c.if-number-len.false))
    (c.answered_life.ensures ∙ ap (answered_life c.args.answer c.args.good) c.index_mut-life.ensures.value)
