use Rattle.std.proofs.Common.{◌≡◌, ◌++◌, take}
use Rattle.std.specs.List.{flat_map}
use Rattle.ninep_trace.specs.Fields.{marked}
use Rattle.ninep_trace.proofs.puts.put_all_marked.Given as goal

abbrev pub invariant-loop-byte : goal.invariant-loop-byte
invariant-loop-byte l = l.out ≡ l.fn.out ++ flat_map marked (take l.byte-index l.bytes)
