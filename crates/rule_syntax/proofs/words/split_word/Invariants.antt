use Rattle.std.proofs.Common.{◌≡◌, ◌++◌, take, drop}
use Rattle.rule_syntax.specs.Words.{word, after_word}
use Rattle.rule_syntax.proofs.words.split_word.Given as goal

abbrev pub invariant-loop-c : goal.invariant-loop-c
invariant-loop-c l = record {
  here : l.at ≡ l.c-index;
  front : take l.c-index l.text ++ word (drop l.c-index l.text) ≡ word l.text;
  rest : after_word (drop l.c-index l.text) ≡ after_word l.text;
}
