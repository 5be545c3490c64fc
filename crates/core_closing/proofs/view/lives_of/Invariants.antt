use Rattle.std.proofs.Common.{◌≡◌, ◌+◌, ◌++◌, length}
use Rattle.core_closing.specs.Views.{lives_from}
use Rattle.core_closing.proofs.view.lives_of.Given as goal

abbrev pub invariant-loop-rest : goal.invariant-loop-rest
invariant-loop-rest l = record {
  here : l.before + length l.rest ≡ length l.jobs;
  told : l.lives ++ lives_from l.watch.kept.jobs l.before l.rest ≡ lives_from l.watch.kept.jobs 0 l.jobs;
}

abbrev pub decreases-loop-rest : goal.decreases-loop-rest
decreases-loop-rest l = length l.rest
