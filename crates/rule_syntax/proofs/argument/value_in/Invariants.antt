use Rattle.std.proofs.Common.{◌≡◌, drop}
use Rattle.rule_syntax.specs.Arguments.{value_from, value_in}
use Rattle.rule_syntax.proofs.argument.value_in.Given as goal

abbrev pub invariant-loop-var : goal.invariant-loop-var
invariant-loop-var l = value_from l.found (drop l.var-index l.vars) l.name ≡ value_in l.vars l.name
