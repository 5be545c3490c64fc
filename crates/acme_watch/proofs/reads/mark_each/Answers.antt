use Rattle.std.proofs.Common.{arith}
use Rattle.acme_watch.specs.Reads.{mark}
use Rattle.acme_watch.proofs.EachLemmas.{each_changed}
use Rattle.acme_watch.proofs.reads.mark_each.Goals as goal

pub loop-held-preserved : goal.loop-held-preserved
loop-held-preserved g c = each_changed (mark (g.P.Passes.passes c.args.by.now)) _ _ _ _ _ c.loop-held.invariant
    (omega arith) c.mark_one.ensures
