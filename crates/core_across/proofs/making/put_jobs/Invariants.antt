use Rattle.std.proofs.Common.{◌≡◌, ◌++◌}
use Rattle.core_across.proofs.making.put_jobs.Given as goal

-- the requests so far, and those that are left, are all
abbrev pub invariant-loop-job : goal.invariant-loop-job
invariant-loop-job l =
    (goal.iterator-loop-job).can_next l.job-iterator ×
    (goal.iterator-loop-job).is_finite l.job-iterator ×
    (l.all ++ l.job-iterator.rest.items ≡ l.initial.all ++ l.initial.job-iterator.rest.items)
