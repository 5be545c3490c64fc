use Rattle.fid_table.specs.Tables.{fids_of}
use Rattle.core_events.proofs.Ends.{closed_more}
use Rattle.core_events.proofs.port_closing.free_port_fids.Goals as goal

pub loop-k-preserved : goal.loop-k-preserved
loop-k-preserved c = record {
  closed = closed_more c.args.ports.now.present (fids_of c.args.sessions.now.present c.args.conn) c.loop-k.k
      c.loop-k.ports c.close_opening.new.ports c.opening_at.result
      c.loop-k.invariant.closed c.opening_at.ensures c.close_opening.ensures.new;
  sound = λ h. c.close_opening.ensures.sound (c.loop-k.invariant.sound h);
  idle = λ h. c.close_opening.ensures.idle (c.loop-k.invariant.idle h);
}
