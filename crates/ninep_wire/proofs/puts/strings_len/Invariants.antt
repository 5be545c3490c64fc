use Rattle.std.proofs.Common.{◌≡◌, length, take}
use Rattle.std.specs.List.{flat_map}
use Rattle.ninep_types.specs.Fields.{string}
use Rattle.ninep_wire.proofs.puts.strings_len.Given as goal

abbrev pub invariant-loop-name : goal.invariant-loop-name
invariant-loop-name l = l.len ≡ length (flat_map string (take l.name-index l.names))
