use Rattle.std.proofs.Common.{◌≡◌, ◌++◌, take}
use Rattle.std.specs.List.{flat_map}
use Rattle.ninep_trace.specs.Fields.{blank_and, quoted}
use Rattle.ninep_trace.proofs.puts.put_each_name.Given as goal

abbrev pub invariant-loop-name : goal.invariant-loop-name
invariant-loop-name l = l.out ≡ l.fn.out ++ flat_map (blank_and quoted) (take l.name-index l.names)
