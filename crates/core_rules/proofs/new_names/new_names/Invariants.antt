use Rattle.std.proofs.Common.{◌≡◌, length}
use Rattle.core_rules.specs.NewNames.{with_names, new_names}
use Rattle.core_rules.proofs.new_names.new_names.Given as goal

-- the names so far, with those that are left, are all
abbrev pub invariant-loop-rest : goal.invariant-loop-rest
invariant-loop-rest l = with_names l.ports.present.ports l.new l.rest ≡ new_names l.ports.present.ports l.fn.names

abbrev pub decreases-loop-rest : goal.decreases-loop-rest
decreases-loop-rest l = length l.rest
