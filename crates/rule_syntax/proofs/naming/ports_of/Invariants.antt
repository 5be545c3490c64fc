use Rattle.std.proofs.Common.{◌≡◌, take}
use Rattle.rule_syntax.specs.Naming.{ports_of}
use Rattle.rule_syntax.proofs.naming.ports_of.Given as goal

abbrev pub invariant-loop-rules : goal.invariant-loop-rules
invariant-loop-rules l = l.names ≡ ports_of (take l.rules-index l.sets)
