use Rattle.std.proofs.Common.{◌≡◌, ◌++◌, take}
use Rattle.std.specs.List.{flat_map}
use Rattle.ninep_types.specs.Fields.{qid_bytes}
use Rattle.ninep_wire.proofs.puts.put_several_qids.Given as goal

abbrev pub invariant-loop-qid : goal.invariant-loop-qid
invariant-loop-qid l = l.out ≡ l.fn.out ++ flat_map qid_bytes (take l.qid-index l.qids)
