use Rattle.std.proofs.Common.{◌+◌, arith}
use Rattle.ninep_frame.specs.Records.{record_of, stat_fields}
use Rattle.ninep_frame.proofs.Joins.{sized}
use Rattle.ninep_frame.proofs.Sizes.{fields_len}
use Rattle.ninep_frame.proofs.record.put_record.Goals as goal

pub returns : goal.returns
unfolding record_of
returns c = sized c.args.out.now c.put_u16.new.out c.put_fields.new.out (stat_fields c.args.stat.now)
    (59 + c.len.result) (omega (arith, fields_len c.args.stat.now, c.len.ensures)) c.in_ok-put_u16.ensures
    c.in_ok-put_fields.ensures
