use Rattle.edit_files.proofs.LawLemmas.{plans_of, first_of}
use Rattle.edit_files.proofs.laws.plans_are_of_the_taken.Goals as goal

pub returns-clause-plans : goal.returns-clause-plans
returns-clause-plans g c = λ run is_taken names plans e. plans_of run is_taken 0 names plans e

pub returns-clause-fault : goal.returns-clause-fault
returns-clause-fault g c = λ run is_taken names k fault e. first_of run is_taken 0 names k fault e
