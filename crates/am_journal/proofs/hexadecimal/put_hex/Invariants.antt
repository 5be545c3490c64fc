use Rattle.std.proofs.Common.{◌≡◌, ◌++◌, take}
use Rattle.std.specs.List.{flat_map}
use Rattle.am_journal.specs.Hexadecimal.{hex_byte}
use Rattle.am_journal.proofs.hexadecimal.put_hex.Given as goal

abbrev pub invariant-loop-b : goal.invariant-loop-b
invariant-loop-b l = l.out ≡ l.fn.out ++ flat_map hex_byte (take l.b-index l.bytes)
