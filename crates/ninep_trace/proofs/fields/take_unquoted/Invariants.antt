use Rattle.std.proofs.Common.{◌≡◌, false, [], length}
use Rattle.ninep_trace.specs.Fields.{unquoted_after}
use Rattle.ninep_trace.proofs.fields.take_unquoted.Given as goal

abbrev pub invariant-loop-rest : goal.invariant-loop-rest
invariant-loop-rest l = unquoted_after l.text false l.rest ≡ unquoted_after [] false l.bytes

abbrev pub decreases-loop-rest : goal.decreases-loop-rest
decreases-loop-rest l = length l.rest
