use Rattle.std.proofs.Common.{arith}
use Rattle.acme_watch.specs.Jobs.{lost_life}
use Rattle.acme_watch.proofs.EachLemmas.{each_changed}
use Rattle.acme_watch.proofs.jobs.lose_each.Goals as goal

pub loop-life-preserved : goal.loop-life-preserved
loop-life-preserved c =
    each_changed (lost_life c.args.opening c.args.close) _ _ _ _ _ c.loop-life.invariant (omega arith)
    c.lose_one.ensures
