use Rattle.std.proofs.Common.{◌∙◌, arith}
use Rattle.acme_watch.specs.Log.{kept_of, with_noted}
use Rattle.acme_watch.proofs.EachLemmas.{each_changed, map-set}
use Rattle.acme_watch.proofs.log.note_each.Goals as goal

pub returns-in_err-note_one-clause-kept : goal.returns-in_err-note_one-clause-kept
returns-in_err-note_one-clause-kept c =
    map-set kept_of _ _ c.queue-item.result _ (cc) ∙ c.loop-queue.invariant.kept

pub loop-queue-preserved : goal.loop-queue-preserved
loop-queue-preserved c = record {
  all = each_changed (with_noted c.args.line.now) _ _ _ c.queue-item.result _ c.loop-queue.invariant.all (omega arith)
      c.in_ok-note_one.ensures.ok;
  kept = map-set kept_of _ _ c.queue-item.result _ (cc) ∙ c.loop-queue.invariant.kept;
}
