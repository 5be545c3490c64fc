use Rattle.std.proofs.Common.{arith}
use Rattle.ninep_frame.specs.Directories.{fitting}
use Rattle.ninep_frame.proofs.Fits.{goes_on, counts_on}
use Rattle.ninep_frame.proofs.directory.part_of.Goals as goal

pub loop-given-preserved : goal.loop-given-preserved
loop-given-preserved c = record {
  bytes = goes_on c.args.stats.now c.loop-given.given c.loop-given.room c.record_size-size.result
      c.index-stats-given.result (fitting c.args.count c.args.stats.now) c.loop-given.bytes c.put_record.new.out
      c.loop-given-test.true c.index-stats-given.is (omega (arith, c.record_size-size.ensures)) c.if-size-room.false
      c.in_ok-put_record.ensures c.loop-given.invariant.bytes;
  count = counts_on c.args.stats.now c.loop-given.given c.loop-given.room c.record_size-size.result
      c.index-stats-given.result (fitting c.args.count c.args.stats.now) c.loop-given-test.true c.index-stats-given.is
      (omega (arith, c.record_size-size.ensures)) c.if-size-room.false c.loop-given.invariant.count;
}
