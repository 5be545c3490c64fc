use Rattle.std.specs.Prelude.{◌≤◌}
use Rattle.re_syntax.specs.declared.re.Re.{size-Re}
use Rattle.re_syntax.proofs.re.Re.+drop.Given as goal

abbrev pub invariant-nodes : goal.invariant-nodes
invariant-nodes l = size-Re l.self ≤ size-Re l.initial.self
