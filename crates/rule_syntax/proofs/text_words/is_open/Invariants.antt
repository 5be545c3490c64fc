use Rattle.std.proofs.Common.{◌≡◌, drop}
use Rattle.rule_syntax.specs.Cutting.{is_open_behind, is_open}
use Rattle.rule_syntax.proofs.text_words.is_open.Given as goal

abbrev pub invariant-loop-b : goal.invariant-loop-b
invariant-loop-b l = is_open_behind l.open (drop l.b-index l.text) ≡ is_open l.text
