use Rattle.std.proofs.Common.{◌≡◌, ◌+◌, ◌≤◌, length}
use Rattle.am_text.specs.Lines.{lines_of}
use Rattle.rule_syntax.specs.Parsing.{lines_read}
use Rattle.rule_syntax.proofs.parsing.lines_read.Given as goal

abbrev pub invariant-loop-rest : goal.invariant-loop-rest
invariant-loop-rest l = record {
  told : lines_read l.lines l.state (lines_of l.rest) ≡ lines_read 0 l.fn.state (lines_of l.text);
  few : l.lines + length l.rest ≤ length l.text;
}

abbrev pub decreases-loop-rest : goal.decreases-loop-rest
decreases-loop-rest l = length l.rest
