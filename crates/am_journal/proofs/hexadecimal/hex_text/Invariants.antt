use Rattle.std.proofs.Common.{◌≡◌, ◌≤◌, ◌+◌, ◌*◌, length, take}
use Rattle.std.specs.List.{flat_map}
use Rattle.am_journal.specs.Hexadecimal.{hex_byte}
use Rattle.am_journal.proofs.hexadecimal.hex_text.Given as goal

abbrev pub invariant-loop-b : goal.invariant-loop-b
invariant-loop-b l = record {
  written : l.text.items ≡ flat_map hex_byte (take l.b-index l.bytes);
  room : length l.bytes * 2 ≤ l.text.spare + l.b-index * 2;
}
