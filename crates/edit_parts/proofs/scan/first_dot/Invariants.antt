use Rattle.std.proofs.Common.{◌≡◌, ◌+◌, true, drop}
use Rattle.edit_parts.specs.Texts.{lines_length}
use Rattle.edit_parts.proofs.scan.first_dot.Given as goal

abbrev pub invariant-loop-at : goal.invariant-loop-at
invariant-loop-at l = l.from + lines_length true (drop l.from l.text) ≡ l.at + lines_length l.starts (drop l.at l.text)
