use Rattle.std.proofs.Common.{◌≡◌, ◌++◌, take}
use Rattle.acme_tree.specs.Trees.{ports_from}
use Rattle.acme_tree.proofs.entries.put_ports.Given as goal

abbrev pub invariant-loop-k : goal.invariant-loop-k
invariant-loop-k l = l.nodes ≡ l.fn.nodes ++ ports_from 0 (take l.k l.ports)
