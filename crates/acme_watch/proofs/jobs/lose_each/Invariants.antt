use Rattle.std.proofs.Common.{◌≡◌, map, take, drop, ◌++◌}
use Rattle.acme_watch.specs.Jobs.{lost_life}
use Rattle.acme_watch.proofs.jobs.lose_each.Given as goal

abbrev pub invariant-loop-life : goal.invariant-loop-life
invariant-loop-life l = l.all ≡ map (lost_life l.opening l.close) (take l.life-index l.initial.all)
    ++ drop l.life-index l.initial.all
