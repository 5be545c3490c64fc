use Rattle.std.specs.Int.{w32, w64, to_le_bytes}
use Rattle.ninep_types.specs.Fields.{counted}
use Rattle.ninep_wire.proofs.Joins.{three}
use Rattle.ninep_wire.proofs.t_writing.put_t_write.Goals as goal

pub returns : goal.returns
returns c = three c.args.out.now (to_le_bytes w32 c.args.fid) (to_le_bytes w64 c.args.offset)
    (counted w32 c.args.bytes.now) c.put_u32.new.out c.put_u64.new.out c.put_data.new.out c.in_ok-put_u32.ensures
    c.in_ok-put_u64.ensures c.in_ok-put_data.ensures
