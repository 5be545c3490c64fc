use Rattle.std.proofs.Common.{◌≡◌, ◌++◌, take}
use Rattle.rule_syntax.specs.Naming.{set_ports}
use Rattle.rule_syntax.proofs.naming.put_ports.Given as goal

abbrev pub invariant-loop-rule : goal.invariant-loop-rule
invariant-loop-rule l = l.names ≡ l.fn.names ++ set_ports (take l.rule-index l.rules)
