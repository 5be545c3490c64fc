use Rattle.fid_table.specs.Tables.{fids_of}
use Rattle.core_events.proofs.Looked.{closed_more}
use Rattle.core_events.proofs.closing.free_fids.Goals as goal

pub loop-k-preserved : goal.loop-k-preserved
loop-k-preserved c = record {
  closed = closed_more c.args.at c.args.book.now.present (fids_of c.args.sessions.now.present c.args.conn) c.loop-k.k
      c.loop-k.book c.close_opening.new.book c.opening_at.result
      c.loop-k.invariant.closed c.opening_at.ensures c.close_opening.ensures.new;
  sound = c.close_opening.ensures.sound;
}
