use Rattle.std.proofs.Common.{◌≡◌, drop}
use Rattle.edit_parts.specs.Texts.{after_blanks}
use Rattle.edit_files.proofs.scan.after_blanks.Given as goal

abbrev pub invariant-loop-at : goal.invariant-loop-at
invariant-loop-at l = after_blanks (drop l.at l.text) ≡ after_blanks (drop l.from l.text)
