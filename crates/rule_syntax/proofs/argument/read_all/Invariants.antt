use Rattle.std.proofs.Common.{◌≡◌, [], drop}
use Rattle.rule_syntax.specs.Arguments.{reader, reads}
use Rattle.rule_syntax.specs.declared.argument.Mode.TheVariants.{Plain}
use Rattle.rule_syntax.proofs.argument.read_all.Given as goal

abbrev pub invariant-loop-c : goal.invariant-loop-c
invariant-loop-c l = reads l.vars l.reading (drop l.c-index l.text) ≡ reads l.vars (reader [] Plain) l.text
