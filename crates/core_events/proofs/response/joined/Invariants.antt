use Rattle.std.proofs.Common.{◌≡◌, ◌++◌}
use Rattle.core_events.proofs.response.joined.Given as goal

abbrev pub invariant-loop-response : goal.invariant-loop-response
invariant-loop-response l =
    (goal.iterator-loop-response).can_next l.response-iterator ×
    (goal.iterator-loop-response).is_finite l.response-iterator ×
    (l.all ≡ l.fn.said ++ l.yielded)
