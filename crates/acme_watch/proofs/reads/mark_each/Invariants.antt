use Rattle.std.proofs.Common.{◌≡◌, map, take, drop, ◌++◌}
use Rattle.acme_watch.specs.Reads.{mark}
use Rattle.acme_watch.proofs.reads.mark_each.Given as goal

abbrev pub invariant-loop-held : goal.invariant-loop-held
invariant-loop-held g l = l.all ≡ map (mark (g.P.Passes.passes l.by)) (take l.held-index l.initial.all)
    ++ drop l.held-index l.initial.all
