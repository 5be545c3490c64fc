use Rattle.std.proofs.Common.{◌≡◌, ◌+◌, drop}
use Rattle.edit_parts.specs.Texts.{line_length}
use Rattle.edit_parts.proofs.scan.line_end.Given as goal

abbrev pub invariant-loop-at : goal.invariant-loop-at
invariant-loop-at l = l.from + line_length (drop l.from l.text) ≡ l.at + line_length (drop l.at l.text)
