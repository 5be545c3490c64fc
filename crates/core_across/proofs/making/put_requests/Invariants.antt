use Rattle.std.proofs.Common.{◌≡◌, ◌++◌}
use Rattle.core_across.specs.Editing.{request_deeds}
use Rattle.core_across.proofs.making.put_requests.Given as goal

-- the deeds so far, and those of the requests that are left, are all
abbrev pub invariant-loop-job : goal.invariant-loop-job
invariant-loop-job l =
    (goal.iterator-loop-job).can_next l.job-iterator ×
    (goal.iterator-loop-job).is_finite l.job-iterator ×
    (l.deeds ++ request_deeds l.job-iterator.rest.items
    ≡ l.initial.deeds ++ request_deeds l.initial.job-iterator.rest.items)
