use Rattle.std.specs.Prelude.{◌≡◌, drop}
use Rattle.re_machine.specs.Listed.{list_of, any_anchor}
use Rattle.re_machine.proofs.nodes.Nodes.has_anchor.Given as goal

abbrev pub invariant-loop-k : goal.invariant-loop-k
invariant-loop-k l = any_anchor (drop l.k (list_of l.self)) ≡ any_anchor (list_of l.self)
