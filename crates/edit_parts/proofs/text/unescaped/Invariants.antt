use Rattle.std.proofs.Common.{◌≡◌, ◌++◌, false, drop}
use Rattle.edit_parts.specs.Texts.{unescaped}
use Rattle.edit_parts.proofs.text.unescaped.Given as goal

abbrev pub invariant-loop-c : goal.invariant-loop-c
invariant-loop-c l = unescaped false l.text ≡ l.made ++ unescaped l.behind_backslash (drop l.c-index l.text)
