use Rattle.std.proofs.Common.{ap}
use Rattle.acme_core.specs.Run.{Editor}
use Rattle.am_drill.proofs.Replies.{brief_at, counted_at}
use Rattle.am_drill.proofs.runner.Runner.step.Goals as goal

pub last_count-more-requires : goal.last_count-more-requires
last_count-more-requires c = brief_at _ _ _ c.requires.next (ap (λ (e : Editor). e.journal) c.in-Ok.ensures.done)

pub returns-in-Ok-clause-counted : goal.returns-in-Ok-clause-counted
returns-in-Ok-clause-counted c =
    counted_at c.args.self.now.core.journal _ c.args.event c.args.self.now.count c.last_count-more.result
    c.requires.next c.requires.counted
    (ap (λ (e : Editor). e.journal) c.in-Ok.ensures.done) c.last_count-more.ensures
