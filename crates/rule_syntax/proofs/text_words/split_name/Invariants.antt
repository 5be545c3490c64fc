use Rattle.std.proofs.Common.{◌≡◌, ◌++◌, take, drop}
use Rattle.rule_syntax.specs.Words.{name_part, after_name}
use Rattle.rule_syntax.proofs.text_words.split_name.Given as goal

abbrev pub invariant-loop-b : goal.invariant-loop-b
invariant-loop-b l = record {
  here : l.at ≡ l.b-index;
  front : take l.b-index l.line ++ name_part (drop l.b-index l.line) ≡ name_part l.line;
  rest : after_name (drop l.b-index l.line) ≡ after_name l.line;
}
