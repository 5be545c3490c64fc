use Rattle.std.proofs.Common.{◌≡◌, take}
use Rattle.rule_syntax.proofs.parsing.copied_vars.Given as goal

abbrev pub invariant-loop-var : goal.invariant-loop-var
invariant-loop-var l = l.new ≡ take l.var-index l.vars
