use Rattle.std.proofs.Common.{◌≡◌, ◌++◌, take}
use Rattle.std.specs.List.{flat_map}
use Rattle.ninep_trace.specs.Fields.{blank_and, qid_text}
use Rattle.ninep_trace.proofs.puts.put_each_qid.Given as goal

abbrev pub invariant-loop-qid : goal.invariant-loop-qid
invariant-loop-qid l = l.out ≡ l.fn.out ++ flat_map (blank_and qid_text) (take l.qid-index l.qids)
