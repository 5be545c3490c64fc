use Rattle.core_outputs.proofs.Places.{touched_nowhere, none_alike}
use Rattle.core_outputs.proofs.outputs.Outputs.new.Goals as goal

pub invariant_of-result : goal.invariant_of-result
invariant_of-result c = touched_nowhere c.nowhere.result c.in_ok-new_outputs.field-0.items c.nowhere.ensures
    (none_alike _ c.in_ok-new_outputs.ensures)
