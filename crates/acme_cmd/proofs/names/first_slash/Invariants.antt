use Rattle.std.proofs.Common.{◌≡◌, ◌+◌, drop}
use Rattle.std.specs.List.{position_or_len}
use Rattle.acme_cmd.specs.Names.{is_slash}
use Rattle.acme_cmd.proofs.names.first_slash.Given as goal

abbrev pub invariant-loop-rune : goal.invariant-loop-rune
invariant-loop-rune l = record {
  here : l.at ≡ l.rune-index;
  told : position_or_len is_slash l.text ≡ l.rune-index + position_or_len is_slash (drop l.rune-index l.text);
}
