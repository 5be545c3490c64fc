use Rattle.std.proofs.Common.{◌∙◌, arith}
use Rattle.plumb_ports.specs.Shown.{kept_of, with_delivered}
use Rattle.plumb_ports.proofs.EachLemmas.{each_changed, map-set}
use Rattle.plumb_ports.proofs.opening_table.deliver_each.Goals as goal

pub returns-in_err-deliver-clause-kept : goal.returns-in_err-deliver-clause-kept
returns-in_err-deliver-clause-kept c =
    map-set kept_of _ _ c.queue-item.result _ (cc) ∙ c.loop-queue.invariant.kept

pub loop-queue-preserved : goal.loop-queue-preserved
loop-queue-preserved c = record {
  all = each_changed (with_delivered c.args.port c.args.message.now) _ _ _ c.queue-item.result _
      c.loop-queue.invariant.all (omega arith) c.in_ok-deliver.ensures.ok;
  kept = map-set kept_of _ _ c.queue-item.result _ (cc) ∙ c.loop-queue.invariant.kept;
}
