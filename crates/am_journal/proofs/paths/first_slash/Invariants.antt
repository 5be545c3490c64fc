use Rattle.std.proofs.Common.{◌≡◌, ◌+◌, drop}
use Rattle.std.specs.List.{position_or_len}
use Rattle.acme_cmd.specs.Names.{is_slash}
use Rattle.am_journal.proofs.paths.first_slash.Given as goal

abbrev pub invariant-loop-byte : goal.invariant-loop-byte
invariant-loop-byte l = record {
  here : l.at ≡ l.byte-index;
  told : position_or_len is_slash l.bytes ≡ l.byte-index + position_or_len is_slash (drop l.byte-index l.bytes);
}
