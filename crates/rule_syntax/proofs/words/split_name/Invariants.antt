use Rattle.std.proofs.Common.{◌≡◌, ◌++◌, take, drop}
use Rattle.rule_syntax.specs.Words.{name_part, after_name}
use Rattle.rule_syntax.proofs.words.split_name.Given as goal

abbrev pub invariant-loop-c : goal.invariant-loop-c
invariant-loop-c l = record {
  here : l.at ≡ l.c-index;
  front : take l.c-index l.text ++ name_part (drop l.c-index l.text) ≡ name_part l.text;
  rest : after_name (drop l.c-index l.text) ≡ after_name l.text;
}
