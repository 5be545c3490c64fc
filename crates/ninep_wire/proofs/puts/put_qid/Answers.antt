use Rattle.std.proofs.Common.{[], ◌∷◌}
use Rattle.std.specs.Int.{w32, w64, to_le_bytes}
use Rattle.ninep_wire.proofs.Joins.{three}
use Rattle.ninep_wire.proofs.puts.put_qid.Goals as goal

pub returns : goal.returns
returns c = three c.args.out.now (c.args.qid.kind ∷ []) (to_le_bytes w32 c.args.qid.vers)
    (to_le_bytes w64 c.args.qid.path) c.push.new.self c.put_u32.new.out c.put_u64.new.out c.in_ok-push.ensures.ok
    c.in_ok-put_u32.ensures c.in_ok-put_u64.ensures
