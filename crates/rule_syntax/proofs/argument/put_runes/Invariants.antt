use Rattle.std.proofs.Common.{◌≡◌, ◌++◌, take}
use Rattle.rule_syntax.specs.Arguments.{rune_pieces}
use Rattle.rule_syntax.proofs.argument.put_runes.Given as goal

abbrev pub invariant-loop-c : goal.invariant-loop-c
invariant-loop-c l = l.pieces ≡ l.fn.pieces ++ rune_pieces (take l.c-index l.text)
