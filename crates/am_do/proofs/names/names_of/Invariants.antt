use Rattle.std.proofs.Common.{◌≡◌, ◌≤◌}
use Rattle.am_do.specs.Fields.{names_within, names_at}
use Rattle.am_do.proofs.Named.{behind}
use Rattle.am_do.proofs.names.names_of.Given as goal

abbrev pub invariant-loop-left : goal.invariant-loop-left
invariant-loop-left l = behind l.names (names_within l.left l.rest) ≡ names_at l.bytes

abbrev pub decreases-loop-left : goal.decreases-loop-left
decreases-loop-left l = l.left
