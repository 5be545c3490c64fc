use Rattle.std.proofs.Common.{arith, ap, length, ◌<◌}
use Rattle.wait_queue.specs.Waiting.{mark}
use Rattle.wait_queue.specs.Reads.{is_read}
use Rattle.wait_queue.specs.Held.{no_waiting}
use Rattle.wait_queue.proofs.OpeningLemmas.{each_changed, length-partly}
use Rattle.wait_queue.proofs.ReadLemmas.{marked}
use Rattle.wait_queue.proofs.reads.mark_read.Goals as goal

pub loop-i-preserved : goal.loop-i-preserved
loop-i-preserved c =
    let within : c.loop-i.i < length c.loop-i.all =
    omega (
      arith,
      ap length c.loop-i.invariant,
      length-partly (mark (is_read c.args.conn c.args.tag)) c.args.all.now
          c.loop-i.i,
    )
    in
    rw c.set_gone.ensures
    (each_changed (mark (is_read c.args.conn c.args.tag)) c.args.all.now c.loop-i.all c.loop-i.i no_waiting _
    c.loop-i.invariant (omega arith)
    (marked (is_read c.args.conn c.args.tag) c.loop-i.all c.loop-i.i c.get-waiting.result no_waiting _ within
    c.get-waiting.ensures c.gone_or_read.ensures))
