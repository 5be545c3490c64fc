use Rattle.std.proofs.Common.{◌≡◌, ◌++◌}
use Rattle.core_across.specs.Editing.{all_bodies, all_jobs, all_prints}
use Rattle.core_across.proofs.making.work_of.Given as goal

-- what the plans so far ask for, and what those that are left do, is all
abbrev pub invariant-loop-plan : goal.invariant-loop-plan
invariant-loop-plan l = record {
  next : (goal.iterator-loop-plan).can_next l.plan-iterator;
  ends : (goal.iterator-loop-plan).is_finite l.plan-iterator;
  deeds : l.work.deeds ++ all_bodies l.plan-iterator.rest.items ≡ all_bodies l.initial.plan-iterator.rest.items;
  jobs : l.work.jobs ++ all_jobs l.plan-iterator.rest.items ≡ all_jobs l.initial.plan-iterator.rest.items;
  prints : l.work.prints ++ all_prints l.plan-iterator.rest.items ≡ all_prints l.initial.plan-iterator.rest.items;
}
