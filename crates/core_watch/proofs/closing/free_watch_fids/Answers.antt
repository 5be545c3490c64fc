use Rattle.fid_table.specs.Tables.{fids_of}
use Rattle.core_watch.proofs.Steps.{closed_more}
use Rattle.core_watch.proofs.closing.free_watch_fids.Goals as goal

pub loop-k-preserved : goal.loop-k-preserved
loop-k-preserved c = record {
  closed = closed_more c.args.at c.args.watch.now.present (fids_of c.args.sessions.now.present c.args.conn) c.loop-k.k
      c.loop-k.watch c.close_opening.new.watch c.opening_at.result
      c.loop-k.invariant.closed c.opening_at.ensures c.close_opening.ensures.new;
  sound = c.close_opening.ensures.sound;
  idle = λ i. c.close_opening.ensures.idle (c.loop-k.invariant.idle i);
}
