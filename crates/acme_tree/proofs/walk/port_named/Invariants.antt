use Rattle.std.proofs.Common.{◌≡◌, ℕ, ◌<◌, false, [], get_or}
use Rattle.std.specs.Str.{bytes_eq}
use Rattle.acme_tree.proofs.walk.port_named.Given as goal

abbrev pub invariant-loop-k : goal.invariant-loop-k
invariant-loop-k l = (j : ℕ) → j < l.k → bytes_eq l.name (get_or l.ports j []) ≡ false
