use Rattle.std.proofs.Common.{◌≡◌, ◌++◌, take, drop}
use Rattle.am_text.specs.Lines.{first_line, after_line}
use Rattle.rule_syntax.proofs.words.cut_line.Given as goal

abbrev pub invariant-loop-c : goal.invariant-loop-c
invariant-loop-c l = record {
  here : l.at ≡ l.c-index;
  front : take l.c-index l.text ++ first_line (drop l.c-index l.text) ≡ first_line l.text;
  rest : after_line (drop l.c-index l.text) ≡ after_line l.text;
}
