use Rattle.std.proofs.Common.{◌≡◌, ◌++◌, take, drop}
use Rattle.acme_cmd.specs.Blanks.{word, after_word}
use Rattle.acme_cmd.proofs.blanks.split_word.Given as goal

abbrev pub invariant-loop-rune : goal.invariant-loop-rune
invariant-loop-rune l = record {
  here : l.at ≡ l.rune-index;
  front : take l.rune-index l.text ++ word (drop l.rune-index l.text) ≡ word l.text;
  rest : after_word (drop l.rune-index l.text) ≡ after_word l.text;
}
